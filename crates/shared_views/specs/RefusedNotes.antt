-- A cell's refusal.
use Rattle.std.specs.Prelude.{ℕ}
use Rattle.shared_views.specs.declared.notes.NoteRefused.{NoteRefused}

-- the place whose cell refused
abbrev pub place_refused : NoteRefused → ℕ
place_refused r = r.place
