use Rattle.journal_laws.proofs.PlayablePlan.{is_playable}
use Rattle.lone_plays.proofs.LoneJournal.{lone_plays}
use Rattle.lone_plays.proofs.plays_stand_alone.Goals as goal

pub returns : goal.returns
returns c = lone_plays c.args.plan.now (is_playable c.args.plan.now c.is_closed.ensures)
