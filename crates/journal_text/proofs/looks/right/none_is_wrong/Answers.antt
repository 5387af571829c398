use Rattle.journal_text.proofs.OnLooks.RightLooks.{none_is_wrong}
use Rattle.journal_text.proofs.looks.right.none_is_wrong.Goals as goal

pub returns : goal.returns
returns c = none_is_wrong c.args.plan.now
