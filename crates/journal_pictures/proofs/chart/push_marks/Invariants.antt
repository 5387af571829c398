use Rattle.std.proofs.Common.{◌≡◌, ◌++◌, take}
use Rattle.std.specs.List.{flat_map}
use Rattle.journal_pictures.specs.Pictures.{mark_text}
use Rattle.journal_pictures.proofs.chart.push_marks.Given as goal

abbrev pub invariant-loop-mark : goal.invariant-loop-mark
invariant-loop-mark l = l.text.items ≡ l.fn.text.items ++ flat_map (mark_text l.plan l.axes) (take l.mark-index l.marks)
