use Rattle.std.proofs.Common.{◌≡◌, map, take}
use Rattle.cell_workload.proofs.names.names_of.Given as goal

abbrev pub invariant-loop-text : goal.invariant-loop-text
invariant-loop-text l = l.names.items ≡ map (λ text. text.now) (take l.text-index l.texts)
