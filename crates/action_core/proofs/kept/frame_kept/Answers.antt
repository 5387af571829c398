use Rattle.std.proofs.Common.{ap}
use Rattle.action_core.specs.inner.Asked.{or_none}
use Rattle.action_core.proofs.kept.frame_kept.Goals as goal

pub returns-in-Some : goal.returns-in-Some
returns-in-Some c = ap or_none c.in-Some.ensures.kept

pub returns-in-None : goal.returns-in-None
returns-in-None c = ap or_none c.in-None.ensures.kept
