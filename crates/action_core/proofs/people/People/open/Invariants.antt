use Rattle.std.proofs.Common.{◌≡◌, ℕ, ◌<◌, [], length}
use Rattle.action_core.specs.inner.KeptPeople.{at, IsPersonOf}
use Rattle.action_core.proofs.people.People.open.Given as goal

abbrev pub invariant-loop-by : goal.invariant-loop-by
invariant-loop-by l = record {
  long : length l.people.items ≡ l.by;
  each : (t : ℕ) → t < l.by → IsPersonOf l.plan [] t (at l.people.items t);
}
