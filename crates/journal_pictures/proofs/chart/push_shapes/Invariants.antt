use Rattle.std.proofs.Common.{◌≡◌, ◌++◌, take}
use Rattle.std.specs.List.{flat_map}
use Rattle.journal_pictures.specs.Pictures.{shape_text}
use Rattle.journal_pictures.proofs.chart.push_shapes.Given as goal

abbrev pub invariant-loop-shape : goal.invariant-loop-shape
invariant-loop-shape l = l.text.items ≡ l.fn.text.items ++ flat_map shape_text (take l.shape-index l.shapes)
