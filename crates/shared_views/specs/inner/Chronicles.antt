-- The rule of the list of publications, and what its steps tell.
use Rattle.std.specs.Prelude.{ℕ, ◌≡◌, ◌<◌, ◌+◌, ◌==◌, true, List, [], ◌∷◌, ◌++◌, length, map, Option, Some, None, MatchBool}
use Rattle.logbook.specs.Pages.{Cell, cell, Step, View, Book, Named, may_make}
use Rattle.shared_views.specs.Publications.{Changes}
use Rattle.shared_views.specs.declared.publications.Entered.{Entered}

-- the publications among these entries: all but the first, which opens the list
abbrev pub listed : List Entered → List Changes
listed [] = []
listed (e ∷ es) = map (λ (x : Entered). x.changes) es

-- the key of the cell whose pen adds what follows these entries, where k is that of the cell whose pen added the first of them
abbrev pub heir_after : Option ℕ → List Entered → Option ℕ
heir_after k [] = k
heir_after k (e ∷ es) = heir_after (Some e.next) es

-- the key of the cell whose pen adds the next entry, once the list is open
abbrev pub heir : List Entered → Option ℕ
heir log = heir_after None log

-- the cell with this key, if there is one, is at home
abbrev pub IsHome : List Cell → Option ℕ → Type 0
IsHome cells None = Unit {0}
IsHome cells (Some k) = (cell cells k).1 ≡ true

-- each entry was added with the pen of the cell that the one before it names, and that cell came home by it
abbrev pub Came : List Cell → Option ℕ → List Entered → Type 0
Came cells k [] = Unit {0}
Came cells k (e ∷ es) = IsHome cells k × Came cells (Some e.next) es

-- the first word is at home, and is 0 only while the list isn't open
pub record IsKept (cells : List Cell) (log : List Entered) : Type 0 where
  pub some : 0 < length cells
  pub head : (cell cells 0).1 ≡ true
  pub unopened : (cell cells 0).0 ≡ 0 → log ≡ []
  pub came : Came cells None log

-- the first word of a book
abbrev pub head_of : Book → Named
head_of b = record { tracked = true; key = 0; book = b }

-- the list was opened, and a pen for its first publication is had; or it was open already
abbrev pub Opens : Step Entered → View Entered ℕ → ℕ → View Entered ℕ → Type 0
Opens s v found w =
    MatchBool (found == 0) ((length w.0 ≡ 1) × (w.1.0.right ≡ may_make) × (heir w.0 ≡ Some w.1.0.key)) (Unit {0})

-- a pen for a new cell is had
abbrev pub Readies : Step Entered → View Entered ℕ → ℕ → View Entered ℕ → Type 0
Readies s v found w = w.1.0.right ≡ may_make

-- the publication was added to all that had been reached
abbrev pub Enters : Step Entered → View Entered ℕ → ℕ → View Entered ℕ → Type 0
Enters s v found w = w.0 ≡ v.0 ++ s.ask ∷ []

-- there are one more entries than this number, and the pen is as it was
abbrev pub Counts : Step Entered → View Entered ℕ → ℕ → View Entered ℕ → Type 0
Counts s v found w = (length w.0 ≡ s.old + 1) × (w.1.0 ≡ v.1.0)
