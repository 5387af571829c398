use Rattle.std.proofs.Common.{◌≡◌, reverse, take, drop}
use Rattle.place_plan.specs.RulesOfJournals.Objects.{value_of, value_outside, places_restoring}
use Rattle.place_plan.proofs.rules.value.value_at.Given as goal

abbrev pub invariant-loop-index : goal.invariant-loop-index
invariant-loop-index l =
    value_of l.plan (reverse l.entries) l.object
    ≡ value_outside l.plan (reverse (take l.index l.entries)) l.object (places_restoring l.object (drop l.index l.entries))
