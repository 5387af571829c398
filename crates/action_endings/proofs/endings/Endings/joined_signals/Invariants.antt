use Rattle.std.proofs.Common.{drop}
use Rattle.core_words.specs.Joining.{IsCoverOf}
use Rattle.place_plan.specs.Plans.Places.{interface_of}
use Rattle.action_endings.specs.inner.KeptEndings.{at}
use Rattle.action_endings.specs.inner.ChangedEndings.{signals_kept}
use Rattle.action_endings.proofs.endings.Endings.joined_signals.Given as goal

abbrev pub invariant-loop-index : goal.invariant-loop-index
invariant-loop-index l =
    IsCoverOf (interface_of l.plan l.place) (signals_kept l.plan l.place (at l.self l.place) (drop l.index l.roles)) l.cover
