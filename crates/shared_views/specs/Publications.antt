-- What is published, and the values that it leaves.
use Rattle.std.specs.Prelude.{◌≡◌, ℕ, ℤ, pos, ◌==◌, if◌then◌else◌, List, fold, Option, Some, None, unwrap_or, slice_index_or}
use mathlib.Core.List.{IsPrefix}
use Rattle.logbook.specs.Pages.{Book}

-- one publication: objects and their new values
abbrev pub Changes : Type 0
Changes = List (ℕ × ℤ)

-- the last value that o was given, after one change more
abbrev pub given_after : ℕ → Option ℤ → ℕ × ℤ → Option ℤ
given_after o before change = if change.0 == o then Some change.1 else before

-- the last value that these publications give o, if they give it one
abbrev pub last_given : ℕ → List Changes → Option ℤ
last_given o publications = fold (fold (given_after o)) None publications

-- the value of o after these publications, the first of them first: the last value that they give it, else its initial value
abbrev pub value_after : List ℤ → List Changes → ℕ → ℤ
value_after initials publications o = unwrap_or (last_given o publications) (slice_index_or initials o (pos 0))

-- publications that somebody knows of: the name of the list that they begin, and what they are, the first of them first
pub record Known : Type 0 where
  pub book : Book
  pub list : List Changes

-- they are of one list, and the second go on from the first
pub record Begins (first second : Known) : Type 0 where
  pub book : second.book ≡ first.book
  pub list : IsPrefix first.list second.list
