use Rattle.std.proofs.Common.{◌≡◌, ◌<◌, ◌≤◌, ℕ, false, length}
use Rattle.caa_base.specs.Written.Lists.{member}
use Rattle.place_plan.specs.Plans.Places.{roles_of}
use Rattle.action_core.specs.inner.KeptPeople.{play_at}
use Rattle.action_core.proofs.people.turn_from.Given as goal

abbrev pub invariant-loop-number : goal.invariant-loop-number
invariant-loop-number l =
    (n : ℕ) → l.low ≤ n → n < l.number → n < length l.plan.plays → member l.by (roles_of l.plan (play_at l.plan n)) ≡ false
