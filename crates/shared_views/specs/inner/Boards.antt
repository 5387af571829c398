-- What the board that observers read shows, and what each of its readers knows of it.
use Rattle.std.specs.Prelude.{◌≡◌, ◌+◌, ◌<◌, ℕ, ℤ, All, List, [], ◌∷◌, ◌++◌, length, fold, Option, Some, None, IfSome, slice_index_or, slice_set}
use mathlib.Core.Option.{some}
use lib.ListN.{get_elem?}
use Rattle.shared_views.specs.Publications.{Known, Begins, last_given}
use Rattle.shared_views.specs.declared.publications.Publication.{Publication}
use Rattle.shared_views.specs.declared.board.Board.{Board}
use Rattle.shared_views.specs.declared.board.View.{View}

-- what a board shows: the last value that each object was given, and the publications
abbrev pub Shown : Type 0
Shown = List (Option ℤ) × Known

-- what this board shows
abbrev pub shown : Board → Shown
shown b = (b.given.items, b.publications)

-- a row of values, after one change
abbrev pub row_after : List (Option ℤ) → ℕ × ℤ → List (Option ℤ)
row_after row change = slice_set row change.0 (Some change.1)

-- what a board shows after one publication more
abbrev pub shown_after : Shown → Publication → Shown
shown_after s p = (fold row_after s.0 p.changes.items, p.publications)

-- the board has the last value that its publications give each object
abbrev pub IsRight : Board → Type 0
IsRight b = (o : ℕ) → slice_index_or b.given.items o None ≡ last_given o b.publications.list

-- what a reader knows of, if anything, begins what the board shows
abbrev pub Fits : Known → View → Type 0
Fits all v = IfSome v.known (λ k. Begins k all)

-- the board is right, and shows all that any reader knows of
pub record Keeps (b : Board) (views : List View) : Type 0 where
  pub right : IsRight b
  pub each : (seat : ℕ) (v : View) → get_elem? views seat ≡ some v → Fits b.publications v

-- afterwards the board is right, and it is known what it shows. That goes on from what was known
pub record Sees (v : View) (before after : Board) (w : View) : Type 0 where
  pub right : IsRight after
  pub all : w.known ≡ Some after.publications
  pub more : Fits after.publications v
  pub looks : w.looks ≡ v.looks + 1

-- the publication is of objects that the board has, and goes on from what it shows
pub record Follows (b : Board) (p : Publication) : Type 0 where
  pub low : All (λ c. c.0 < length b.given.items) p.changes.items
  pub book : p.publications.book ≡ b.publications.book
  pub more : p.publications.list ≡ b.publications.list ++ p.changes.items ∷ []
