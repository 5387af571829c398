-- The room that a line is written into.
use Rattle.std.specs.Prelude.{ℕ, ◌+◌, ◌≤◌, List, length}

-- how many bytes of room are spare behind a line
abbrev pub spare : ℕ
spare = 20

-- there is room for these bytes from this place on, and the spare room behind them
abbrev pub Fits : ℕ → List ℕ → List ℕ → Type 0
Fits at bytes room = at + length bytes + spare ≤ length room

-- how many bytes the line of an entry has at most, where its names are names by the grammar
abbrev pub most_line : ℕ
most_line = 108
