use Rattle.std.proofs.Common.{◌≡◌, ◌||◌, ℤ, reverse, take}
use Rattle.std.specs.List.{list_any}
use Rattle.place_plan.specs.RulesOfJournals.Roles.{int_same}
use Rattle.interlock_rules.specs.Interlocks.{may_be}
use Rattle.interlock_rules.proofs.places.where_may_be.Given as goal

abbrev pub invariant-loop-index : goal.invariant-loop-index
invariant-loop-index l =
    (x : ℤ) → (list_any (int_same x) l.numbers.items || may_be l.plan (reverse (take l.index l.entries)) l.object x)
    ≡ may_be l.plan (reverse l.entries) l.object x
