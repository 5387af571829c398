-- What is kept of the resolutions in a journal.
use Rattle.std.specs.Prelude.{◌≡◌, ℕ, ◌<◌, Bool, true, false, List, length, slice_index_or, Option, Some, None}
use Rattle.caa_base.specs.declared.written.entry.Kind.{Kind}
use Rattle.caa_base.specs.declared.written.entry.Kind.TheVariants as kind
use Rattle.caa_base.specs.declared.written.entry.Entry.{Entry}
use Rattle.place_plan.specs.RulesOfJournals.Raising.{exception_resolved}
use Rattle.shared_views.specs.Noted.{Noted, IsOf}
use Rattle.shared_views.specs.RefusedNotes.{place_refused}
use Rattle.shared_views.specs.declared.bulletin.Bulletin.{Bulletin}
use Rattle.shared_views.specs.declared.bulletin.Announcement.{Announcement}
use Rattle.shared_views.specs.declared.bulletin.Announcement.TheVariants as told

-- the names of the cells by which the bulletin tells
abbrev pub cells_of : Bulletin → List ℕ
cells_of b = b.cells.value

-- the note is of p, by these cells, and knows the exception
pub record Knows (cells : List ℕ) (p : ℕ) (x : ℕ) (note : Noted) : Type 0 where
  pub place : note.place ≡ p
  pub ours : IsOf cells note
  pub known : note.known ≡ Some x

-- that p is resolved to the exception was told: a note knows it, or the cell of p refused
abbrev pub IsTold : List ℕ → ℕ → ℕ → Announcement → Type 0
IsTold cells p x told.Nothing = ⊥
IsTold cells p x (told.Noted note) = Knows cells p x note
IsTold cells p x (told.Refused r) = place_refused r ≡ p

-- while p isn't resolved its box is there; then that was told
abbrev pub Tells : List ℕ → ℕ → Bool → Option ℕ → Announcement → Type 0
Tells cells p box None t = box ≡ true
Tells cells p box (Some x) t = IsTold cells p x t

-- what was told of p
abbrev pub told_at : Bulletin → ℕ → Announcement
told_at b p = slice_index_or b.told.items p told.Nothing

-- there is a box, and a word on what was told, for each cell
pub record IsSet (b : Bulletin) : Type 0 where
  pub boxed : length b.announcer ≡ length (cells_of b)
  pub long : length b.told.items ≡ length (cells_of b)

-- nothing was told, and each box is there
pub record IsFresh (b : Bulletin) : Type 0 where
  pub set : IsSet b
  pub full : (p : ℕ) → p < length (cells_of b) → slice_index_or b.announcer p false ≡ true

-- the bulletin fits the past, place by place
pub record KeepsUp (past : List Entry) (b : Bulletin) : Type 0 where
  pub set : IsSet b
  pub each :
      (p : ℕ) → p < length (cells_of b)
      → Tells (cells_of b) p (slice_index_or b.announcer p false) (exception_resolved past p) (told_at b p)

-- the second bulletin has the boxes, the words and the cells of the first
pub record SaysTheSame (b b' : Bulletin) : Type 0 where
  pub cells : cells_of b' ≡ cells_of b
  pub boxes : b'.announcer ≡ b.announcer
  pub words : b'.told.items ≡ b.told.items

-- an entry after this past: its place has a cell, a Resolve comes to a place that isn't resolved, and a Handle carries the
-- exception to which its place is resolved
pub record Suits (cells : List ℕ) (past : List Entry) (e : Entry) : Type 0 where
  pub inside : e.place < length cells
  pub fresh : e.kind ≡ kind.Resolve → exception_resolved past e.place ≡ None
  pub carried : e.kind ≡ kind.Handle → exception_resolved past e.place ≡ Some e.arg

-- what comes of an entry, by its kind: of a Resolve or a Handle that its place is resolved to its exception, and of all others
-- nothing
abbrev pub TellsOf : Kind → List ℕ → Entry → Announcement → Type 0
TellsOf kind.Resolve cells e t = IsTold cells e.place e.arg t
TellsOf kind.Handle cells e t = IsTold cells e.place e.arg t
TellsOf _ cells e t = t ≡ told.Nothing
