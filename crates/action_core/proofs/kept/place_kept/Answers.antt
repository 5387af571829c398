use Rattle.std.proofs.Common.{ap}
use Rattle.action_core.specs.inner.Asked.{place_of}
use Rattle.action_core.proofs.kept.place_kept.Goals as goal

pub returns-in-Some : goal.returns-in-Some
returns-in-Some c = ap place_of c.in-Some.ensures.kept

pub returns-in-None : goal.returns-in-None
returns-in-None c = ap place_of c.in-None.ensures.kept
