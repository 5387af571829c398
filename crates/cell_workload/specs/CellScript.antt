-- The script of the production cell.
use Rattle.std.specs.Prelude.{ℕ, ◌%◌, ◌==◌, Bool, if◌then◌else◌, List, [], ◌∷◌, ◌++◌, map}
use Rattle.std.specs.List.{range_with_len}
use Rattle.action_script.specs.declared.forms.form.Form.{Form}
use Rattle.action_script.specs.declared.forms.form.Form.TheVariants as form
use Rattle.action_script.specs.Forms.Printing.{numbered_from}
use Rattle.action_script.specs.Forms.ScriptValue.{Script}
use Rattle.cell_workload.specs.CellNames.{cell_names, feeder, robot, press, plain, jammed, lost}
use Rattle.cell_workload.specs.CellLines.{cell_lines}

-- a cell works for so many cycles at most
abbrev pub most_cycles : ℕ
most_cycles = 2000

-- what is played: each fifth cycle is jammed, each tenth is lost instead, and in the rest all goes well
abbrev pub played : Bool → Bool → ℕ
played tenth fifth = if tenth then lost else (if fifth then jammed else plain)

-- who plays it
abbrev pub players : List ℕ
players = feeder ∷ robot ∷ press ∷ []

-- the line by which a cycle is played
abbrev pub play_line : ℕ → Form
play_line cycle = form.Play (played (cycle % 10 == 0) (cycle % 5 == 0)) players

-- the lines: graphs and actions, and behind them a play for each cycle, counted from 1
abbrev pub cell_forms : ℕ → List Form
cell_forms cycles = cell_lines ++ map play_line (range_with_len 1 cycles)

-- the script of a cell that works for so many cycles
abbrev pub cell_script : ℕ → Script
cell_script cycles = record { lines = numbered_from 1 (cell_forms cycles); names = cell_names }
