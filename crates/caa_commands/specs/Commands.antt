-- The command lines that are served.
use Rattle.std.specs.Prelude.{ℕ, ℤ, pos, negsuc, ◌≤◌, ◌&&◌, nat_le, if◌then◌else◌, Bool, true, false, List, [], ◌∷◌, Option, Some, None, option_map, bytes_eq, codes}
use Rattle.action_script.specs.Words.ScriptWords.{value_of}
use Rattle.cell_workload.specs.CellScript.{most_cycles}
use Rattle.caa_commands.specs.declared.command.Command.{Command}
use Rattle.caa_commands.specs.declared.command.Command.TheVariants as command

-- the greatest seed
abbrev pub most_seed : ℕ
most_seed = 2147483647

-- the most members that a set of exceptions may have
abbrev pub most_members : ℕ
most_members = 7

-- the most workers of a pool
abbrev pub most_workers : ℕ
most_workers = 16

-- a value that is a number from the least to the greatest
abbrev pub number_within : ℕ → ℕ → Option ℤ → Option ℕ
number_within least most None = None
number_within least most (Some (pos n)) = if nat_le least n && nat_le n most then Some n else None
number_within least most (Some (negsuc n)) = None

-- just a number from the least to the greatest, in decimal digits without a sign and without leading zeros
abbrev pub number_alone : ℕ → ℕ → List (List ℕ) → Option ℕ
number_alone least most [] = None
number_alone least most (word ∷ []) = number_within least most (value_of word)
number_alone least most (word ∷ next ∷ more) = None

-- the number of a command, where it has one, is in its range: a seed is at most the greatest, and a set has a member, a pool a
-- worker and a cell a cycle at least
abbrev pub IsWithinRange : Command → Type 0
IsWithinRange (command.Sim seed) = seed ≤ most_seed
IsWithinRange (command.Graph members) = (1 ≤ members) × (members ≤ most_members)
IsWithinRange (command.Messages seed) = seed ≤ most_seed
IsWithinRange (command.Pool workers) = (1 ≤ workers) × (workers ≤ most_workers)
IsWithinRange (command.Cell cycles) = (1 ≤ cycles) × (cycles ≤ most_cycles)
IsWithinRange _ = Unit {0}

-- this command, where no word stands behind its own
abbrev pub alone : Command → List (List ℕ) → Option Command
alone command [] = Some command
alone command (word ∷ words) = None

-- the command of these words, where they are `check`, `sim SEED`, `run`, `audit`, `graph K`, `messages SEED`, `pool W` or
-- `cell N`
abbrev pub command_of : List (List ℕ) → Option Command
command_of [] = None
command_of (word ∷ words) =
    if bytes_eq word (codes "check") then alone command.Check words
    else (if bytes_eq word (codes "sim") then option_map command.Sim (number_alone 0 most_seed words)
    else (if bytes_eq word (codes "run") then alone command.Run words
    else (if bytes_eq word (codes "audit") then alone command.Audit words
    else (if bytes_eq word (codes "graph") then option_map command.Graph (number_alone 1 most_members words)
    else (if bytes_eq word (codes "messages") then option_map command.Messages (number_alone 0 most_seed words)
    else (if bytes_eq word (codes "pool") then option_map command.Pool (number_alone 1 most_workers words)
    else (if bytes_eq word (codes "cell") then option_map command.Cell (number_alone 1 most_cycles words) else None)))))))

-- a command that needs threads
abbrev pub is_threaded : Command → Bool
is_threaded command.Run = true
is_threaded (command.Pool workers) = true
is_threaded _ = false

-- words that are those of such a command
abbrev pub asks_for_threads : Option Command → Bool
asks_for_threads None = false
asks_for_threads (Some command) = is_threaded command

-- a command that needs no threads; `run` and `pool` need them
abbrev pub without_threads : Option Command → Option Command
without_threads (Some command.Run) = None
without_threads (Some (command.Pool workers)) = None
without_threads asked = asked

-- a command for which the input is read; `cell` makes its script itself
abbrev pub reads_input : Command → Bool
reads_input (command.Cell cycles) = false
reads_input _ = true

-- words that are those of such a command
abbrev pub asks_for_input : Option Command → Bool
asks_for_input None = false
asks_for_input (Some command) = reads_input command
