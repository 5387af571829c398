use Rattle.std.proofs.Common.{◌≡◌, ◌++◌, ◌∷◌, [], codes, decimal, take}
use Rattle.caa_base.specs.Written.Lines.{spaced}
use Rattle.line_plant.specs.Lines.{names_and_values}
use Rattle.line_plant.proofs.lines.make_lay.Given as goal

abbrev pub invariant-loop-object : goal.invariant-loop-object
invariant-loop-object l = l.text.items ≡ codes "lay" ++ spaced (decimal l.number ∷ []) ++ spaced (names_and_values (take l.object l.names) (take l.object l.values))
