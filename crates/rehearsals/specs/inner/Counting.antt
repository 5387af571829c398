-- How the rows of a tally change where a fact is counted.
use Rattle.std.specs.Prelude.{◌≡◌, ℕ, zero, suc, ◌==◌, ◌+◌, Bool, true, false, if◌then◌else◌, List, [], ◌∷◌}
use Rattle.rehearsals.specs.declared.facts.Fact.{Fact}
use Rattle.rehearsals.specs.declared.tally.Row.{Row}
use Rattle.rehearsals.specs.Tallies.{is_same}

-- the row of a fact that this journal is the first to show
abbrev pub fresh : ℕ → Fact → Row
fresh n f = record { fact = f; count = 1; first = n; last = n }

-- a row whose fact this journal shows: it is counted once for each journal
abbrev pub bumped : ℕ → Row → Row
bumped n r = if r.last == n then r else record { fact = r.fact; count = r.count + 1; first = r.first; last = n }

-- the rows once a fact was counted for the journal of this number
abbrev pub counted : ℕ → Fact → List Row → List Row
counted n f [] = fresh n f ∷ []
counted n f (r ∷ rs) = if is_same f r.fact then bumped n r ∷ rs else r ∷ counted n f rs

-- none of the first so many rows is of this fact
abbrev pub NoneAmong : ℕ → List Row → Fact → Type 0
NoneAmong zero rows f = Unit {0}
NoneAmong (suc i) [] f = Unit {0}
NoneAmong (suc i) (r ∷ rs) f = (is_same f r.fact ≡ false) × NoneAmong i rs f
