use Rattle.std.proofs.Common.{◌≡◌, take}
use Rattle.std.specs.List.{flat_map}
use Rattle.place_plan.specs.Plans.Places.{objects_of}
use Rattle.journal_states.specs.Past.{plan_in, past_in}
use Rattle.journal_page.specs.Stances.{object_lacking}
use Rattle.journal_page.proofs.stances.awaited_objects.Given as goal

abbrev pub invariant-loop-object : goal.invariant-loop-object
invariant-loop-object l =
    l.awaited.items ≡ flat_map (object_lacking (plan_in l.states) (past_in l.states) l.place)
    (take l.object-index (objects_of (plan_in l.states) l.place))
