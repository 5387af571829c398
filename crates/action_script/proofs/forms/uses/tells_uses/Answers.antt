use Rattle.action_script.proofs.OnForms.Sorted.{tells_uses}
use Rattle.action_script.proofs.forms.uses.tells_uses.Goals as goal

pub returns : goal.returns
returns c = tells_uses c.args.form.now
