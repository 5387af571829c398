use Rattle.action_script.proofs.OnForms.Sorted.{tells_declared}
use Rattle.action_script.proofs.forms.uses.tells_declared.Goals as goal

pub returns : goal.returns
returns c = tells_declared c.args.form.now
