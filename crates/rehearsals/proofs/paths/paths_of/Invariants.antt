use Rattle.std.proofs.Common.{◌≡◌, length}
use Rattle.rehearsals.proofs.paths.paths_of.Given as goal

abbrev pub invariant-loop-place : goal.invariant-loop-place
invariant-loop-place l = length l.models.items ≡ l.place
