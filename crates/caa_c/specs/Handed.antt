-- What C is handed of bytes, and the lines of a journal's text by their numbers.
use Rattle.std.specs.Prelude.{◌≡◌, ℕ, ◌-◌, ◌+◌, nat_lt, if◌then◌else◌, List, ◌++◌, length, take, drop, reverse, slice_get, Option, Some, None}
use Rattle.std.specs.Option.{option_map}
use Rattle.caa_base.specs.declared.written.entry.Entry.{Entry}
use Rattle.place_plan.specs.Plans.PlanValue.{Plan}
use Rattle.journal_text.specs.Texts.Text.{entry_line, object_line, outcome_line}
use Rattle.caa_c.specs.declared.code.Code.{Code}
use Rattle.caa_c.specs.declared.code.Code.TheVariants as code
use Rattle.caa_c.specs.Codes.{number_of}

-- room after bytes were written into it: as many of them as it has room for, and behind them what stood there
abbrev pub filled : List ℕ → List ℕ → List ℕ
filled bytes room = take (length room) bytes ++ drop (length bytes) room

-- the bytes were written into the room, and their number was told
pub record IsHanded (bytes before after : List ℕ) (n : ℕ) : Type 0 where
  pub room : after ≡ filled bytes before
  pub number : n ≡ length bytes

-- nothing was written, and no number told
pub record IsUnhanded (before after : List ℕ) (n : ℕ) : Type 0 where
  pub room : after ≡ before
  pub number : n ≡ 0

-- ---- lines

-- the line of the entry of this number, if there is one
abbrev pub entry_line_at : Plan → List Entry → ℕ → Option (List ℕ)
entry_line_at plan journal n = option_map (entry_line plan) (slice_get journal n)

-- how many lines stand behind those of the entries: one for each object, and one for each place
abbrev pub rest_count : Plan → ℕ
rest_count plan = length plan.objects + length plan.places

-- the line of this number among them, those of the objects first
abbrev pub rest_line : Plan → List Entry → ℕ → List ℕ
rest_line plan past n =
    if nat_lt n (length plan.objects) then object_line plan past n else outcome_line plan past (n - length plan.objects)

-- the same, if there is such a line
abbrev pub rest_line_at : Plan → List Entry → ℕ → Option (List ℕ)
rest_line_at plan journal n = if nat_lt n (rest_count plan) then Some (rest_line plan (reverse journal) n) else None

-- C is handed the line that it asked for, or is told that there is none, or that no memory was found
abbrev pub LineTold : Option (List ℕ) → List ℕ → List ℕ → ℕ → Code → Type 0
LineTold (Some line) before after n code.Done = IsHanded line before after n
LineTold None before after n code.Unfit = IsUnhanded before after n
LineTold _ before after n code.NoMemory = IsUnhanded before after n
LineTold _ before after n _ = ⊥

-- the same by the number of the answer
pub record LineAnswer (line : Option (List ℕ)) (before after : List ℕ) (n answer : ℕ) : Type 0 where
  pub code : Code
  pub number : answer ≡ number_of code
  pub told : LineTold line before after n code
