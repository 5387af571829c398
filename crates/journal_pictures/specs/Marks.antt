-- The marks of a picture.
use Rattle.std.specs.Prelude.{ℕ, suc, List, [], ◌∷◌, take, drop, min}
use Rattle.caa_base.specs.declared.written.entry.Entry.{Entry}
use Rattle.journal_pictures.specs.declared.marks.Mark.{Mark}

-- so many entries are drawn at most
abbrev pub most_rows : ℕ
most_rows = 5000

-- the entries that are drawn: so many from this number on, where there are so many, and no more than the most
abbrev pub drawn : ℕ → ℕ → List Entry → List Entry
drawn first count entries = take (min count most_rows) (drop first entries)

-- the mark of an entry in this row: it stands in the lane of the participant that made the entry
abbrev pub mark_at : ℕ → Entry → Mark
mark_at row e = record { lane = e.by; row = row; entry = e }

-- one mark for each of these entries, in order, each in a row of its own: this row and those after it
abbrev pub marks_from : ℕ → List Entry → List Mark
marks_from row [] = []
marks_from row (e ∷ entries) = mark_at row e ∷ marks_from (suc row) entries
