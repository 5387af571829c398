-- What contracts see of a committed writer and of its observers.
use Rattle.std.specs.Prelude.{◌≡◌, ◌⊎◌, ◌≤◌, ℕ, ℤ, Bool, false, List, [], ◌∷◌, ◌++◌, length, take, Option, None}
use Rattle.shared_views.specs.Publications.{Changes, Known, value_after}
use Rattle.shared_views.specs.declared.observed.Reading.{Reading}

-- a committed writer: the initial values, all its publications, whether an earlier publication found no memory, and what it has
-- entered in its list: its publications, and after want of memory perhaps one more
pub record Committed : Type 0 where
  pub initials : List ℤ
  pub publications : Known
  pub is_stale : Bool
  pub entered : Known

-- an observer: the initial values, the publications that it has seen or was told of, whether it has a place at the board, how
-- often it looked at the board from there, and what the board showed at the last of these looks
pub record Watching : Type 0 where
  pub initials : List ℤ
  pub known : Known
  pub is_placed : Bool
  pub looks : ℕ
  pub shown : Option Known

-- an observer with these first values that knows these publications, has no place, and hasn't looked
abbrev pub unplaced : List ℤ → Known → Watching
unplaced initials known = record { initials = initials; known = known; is_placed = false; looks = 0; shown = None }

-- an observer that knows just what the writer has published, and has no place
abbrev pub watching : Committed → Watching
watching w = unplaced w.initials w.publications

-- the observer, its place aside
abbrev pub placeless : Watching → Watching
placeless o = unplaced o.initials o.known

-- nothing was entered in the list, or these changes were, after all that stood in it
abbrev pub MayEnter : Known → Changes → Known → Type 0
MayEnter before changes after = (after ≡ before) ⊎ ((after.book ≡ before.book) × (after.list ≡ before.list ++ changes ∷ []))

-- the reading is of all these publications: how many they are, and the value of o after them
pub record IsReading (initials : List ℤ) (all : Known) (o : ℕ) (r : Reading) : Type 0 where
  pub ends : r.ends ≡ length all.list
  pub value : r.value ≡ value_after initials all.list o

-- the reading is of the first so many of these publications
pub record WasRead (initials : List ℤ) (all : Known) (o : ℕ) (r : Reading) : Type 0 where
  pub ends : r.ends ≤ length all.list
  pub value : r.value ≡ value_after initials (take r.ends all.list) o
