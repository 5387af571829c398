use Rattle.std.proofs.Common.{◌≡◌, ◌+◌, drop}
use Rattle.caa_base.specs.Written.Lists.{index_of}
use Rattle.name_uses.proofs.scope.place_of.Given as goal

abbrev pub invariant-loop-place : goal.invariant-loop-place
invariant-loop-place l = l.place + index_of l.name (drop l.place l.names) ≡ index_of l.name l.names
