-- Notes of the cells.
use Rattle.std.specs.Prelude.{◌≡◌, ℕ, ◌<◌, List, length, slice_index_or}
use Rattle.std.specs.declared.option.Option.{Option}

-- a note: its place, the name of its cell, and what it knows
pub record Noted : Type 0 where
  pub place : ℕ
  pub cell : ℕ
  pub known : Option ℕ

-- the note is of one of these cells, the one of its place
pub record IsOf (cells : List ℕ) (note : Noted) : Type 0 where
  pub inside : note.place < length cells
  pub same : note.cell ≡ slice_index_or cells note.place 0
