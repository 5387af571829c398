-- The recoveries of all places, and what a call does to them.
use Rattle.std.specs.Prelude.{◌≡◌, ℕ, ◌==◌, ◌<◌, ◌||◌, false, List, ◌∷◌, Some, None, length, slice_index_or}
use Rattle.cover_table.specs.Cover.{CoverOrder, IsLeastCover, has_bit}
use Rattle.core_words.specs.Joining.{as_list}
use Rattle.resolution_core.specs.declared.recovery.Recovery.{Recovery}

-- nothing is raised, and nobody is halted
abbrev pub unraised : Recovery
unraised = record { halted = 0; cover = None; resolved = None }

-- the recovery of p; past the end nothing is raised
abbrev pub at : List Recovery → ℕ → Recovery
at rows p = slice_index_or rows p unraised

-- t isn't halted in p, and p isn't resolved
pub record IsRunning (rows : List Recovery) (p t : ℕ) : Type 0 where
  pub there : p < length rows
  pub known : t < 64
  pub running : has_bit (at rows p).halted t ≡ false
  pub unresolved : (at rows p).resolved ≡ None

-- ---- what a call does to them

-- the recovery of p changes like this, and no other
pub record ChangesAt (Change : Recovery → Recovery → Type 0) (p : ℕ) (old new : List Recovery) : Type 0 where
  pub as_many : length new ≡ length old
  pub here : Change (at old p) (at new p)
  pub apart : (q : ℕ) → (p == q) ≡ false → at new q ≡ at old q

-- t is halted, and the cover goes on from this exception: it is the least one that covers this one and the cover so far
pub record Raised (order : CoverOrder) (t x : ℕ) (old new : Recovery) : Type 0 where
  pub cover : ℕ
  pub is : new.cover ≡ Some cover
  pub least : IsLeastCover order (x ∷ as_list old.cover) cover
  pub halted : (s : ℕ) → has_bit new.halted s ≡ ((t == s) || has_bit old.halted s)
  pub resolution : new.resolved ≡ old.resolved

-- t is halted, and nothing else changes
pub record Informed (t : ℕ) (old new : Recovery) : Type 0 where
  pub halted : (s : ℕ) → has_bit new.halted s ≡ ((t == s) || has_bit old.halted s)
  pub cover : new.cover ≡ old.cover
  pub resolution : new.resolved ≡ old.resolved

-- it is resolved to this exception, and nothing else changes
abbrev pub resolved_to : ℕ → Recovery → Recovery
resolved_to x row = record row { resolved = Some x }
