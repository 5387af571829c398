-- The names that are made for sets of primitives.
use Rattle.std.specs.Prelude.{ℕ, ◌+◌, ◌==◌, nat_lt, nat_le, nat_eq, if◌then◌else◌, Bool, true, false, ◌&&◌, List, [], ◌∷◌, ◌++◌, length, drop, Option, Some, None, zero, suc, decimal, codes}
use Rattle.std.specs.List.{flat_map, slice_split, starts_with}
use Rattle.caa_base.specs.Written.Lines.{at_most}
use Rattle.cover_table.specs.Cover.{has_bit}
use Rattle.action_script.specs.Words.ScriptWords.{natural_of}

-- ---- the name of a set

-- the numbers of the members that a set has among the first n primitives, ascending
abbrev pub member_list : ℕ → ℕ → List ℕ
member_list zero set = []
member_list (suc bit) set = if has_bit set bit then member_list bit set ++ (bit + 1) ∷ [] else member_list bit set

-- a dash, and a number
abbrev pub dashed : ℕ → List ℕ
dashed number = 45 ∷ decimal number

-- the name that is made for the members of these numbers
abbrev pub made_name : List ℕ → List ℕ
made_name numbers = codes "s" ++ flat_map dashed numbers

-- the name that is made for a set of the first n primitives
abbrev pub set_name : ℕ → ℕ → List ℕ
set_name n set = made_name (member_list n set)

-- ---- the same, read

-- a number is greater than the last one, and so on
abbrev pub goes_on : ℕ → (ℕ → Bool) → Option ℕ → Bool
goes_on last more None = false
goes_on last more (Some number) = nat_lt last number && more number

-- these words are numbers up to n without leading zeros, each of them greater than the one before it, the first than `last`
abbrev pub ascend : ℕ → ℕ → List (List ℕ) → Bool
ascend n last [] = true
ascend n last (word ∷ words) = goes_on last (λ number. ascend n number words) (at_most n (natural_of word))

-- these words are the numbers of at least two and at most so many members of a set of the first n primitives
abbrev pub are_numbers : ℕ → ℕ → List (List ℕ) → Bool
are_numbers n most words = ascend n 0 words && (nat_le 2 (length words) && nat_le (length words) most)

-- what stands between the dashes of a text is that
abbrev pub are_members : ℕ → ℕ → List ℕ → Bool
are_members n most text = are_numbers n most (slice_split (λ b. b == 45) text)

-- a name is made for a set of at least two and at most so many of the first n primitives
abbrev pub is_made_name : ℕ → ℕ → List ℕ → Bool
is_made_name n most name = starts_with nat_eq name (codes "s-") && are_members n most (drop 2 name)
