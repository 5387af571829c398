-- Words on lists of numbers, and on drills.
use Rattle.std.specs.Prelude.{ℕ, ◌+◌, nat_lt, ◌==◌, ◌&&◌, if◌then◌else◌, Bool, List, [], ◌∷◌, length}
use Rattle.caa_base.specs.declared.written.entry.Drill.{Drill}
use Rattle.caa_base.specs.Written.Lists.{member, index_of}

-- names of a list: so many that their number and the place of each are below the greatest number of 32 bits
abbrev pub most_names : ℕ
most_names = 4294967294

-- the name is among these
abbrev pub is_among : List ℕ → ℕ → Bool
is_among names name = nat_lt (index_of name names) (length names)

-- the numbers of those names that are among some, in the order of the names; `n` is the number of the first name
abbrev pub chosen_from : ℕ → List ℕ → List ℕ → List ℕ
chosen_from n some [] = []
chosen_from n some (x ∷ xs) = if member x some then n ∷ chosen_from (n + 1) some xs else chosen_from (n + 1) some xs

-- a drill of just this put of this object
abbrev pub is_drill : ℕ → ℕ → Drill → Bool
is_drill object nth drill = (drill.object == object) && (drill.nth == nth)
