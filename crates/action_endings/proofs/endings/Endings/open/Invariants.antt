use Rattle.std.proofs.Common.{◌≡◌, ℕ, ◌<◌, length}
use Rattle.action_endings.specs.inner.KeptEndings.{at}
use Rattle.action_endings.proofs.Opened.{opened}
use Rattle.action_endings.proofs.endings.Endings.open.Given as goal

abbrev pub invariant-loop-place : goal.invariant-loop-place
invariant-loop-place l = record {
  long : length l.places.items ≡ l.place;
  each : (p : ℕ) → p < l.place → at l.places.items p ≡ opened l.plan p;
}
