use Rattle.journal_laws.proofs.PlayablePlan.{is_playable}
use Rattle.lone_plays.proofs.Joined.{lone_journals}
use Rattle.lone_plays.proofs.lone_journals_join.Goals as goal

pub returns : goal.returns
returns c = lone_journals c.args.plan.now (is_playable c.args.plan.now c.is_closed.ensures)
