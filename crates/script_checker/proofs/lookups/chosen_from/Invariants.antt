use Rattle.std.proofs.Common.{◌≡◌, ◌++◌, drop}
use Rattle.script_checker.specs.Numbers.{chosen_from}
use Rattle.script_checker.proofs.lookups.chosen_from.Given as goal

abbrev pub invariant-loop-place : goal.invariant-loop-place
invariant-loop-place l = l.chosen.items ++ chosen_from l.place l.some (drop l.place l.names) ≡ chosen_from 0 l.some l.names
