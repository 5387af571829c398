use Rattle.std.proofs.Common.{◌≡◌, ℕ, ◌<◌, [], length}
use Rattle.object_versions.specs.inner.KeptVersions.{at, IsVersionOf}
use Rattle.object_versions.proofs.versions.Versions.open.Given as goal

abbrev pub invariant-loop-object : goal.invariant-loop-object
invariant-loop-object l = record {
  long : length l.versions.items ≡ l.object;
  each : (o : ℕ) → o < l.object → IsVersionOf l.plan [] o (at l.versions.items o);
}
