use Rattle.std.proofs.Common.{◌≡◌, take}
use Rattle.journal_pictures.specs.Marks.{marks_from}
use Rattle.journal_pictures.proofs.marks.marks_of.Given as goal

abbrev pub invariant-loop-row : goal.invariant-loop-row
invariant-loop-row l = l.marks.items ≡ marks_from 0 (take l.row l.part)
