-- What is heard of a device.
use Rattle.std.specs.Prelude.{◌≡◌, ◌⊎◌, ℕ, Bool, true, false, List, ◌∷◌, [], ◌++◌, Option, Some, codes, decimal}
use Rattle.std.specs.Io.KnownBytes.{prepend_known}
use Rattle.caa_base.specs.Outside.Counts.{counted_up}
use Rattle.caa_base.specs.declared.outside.source.Source.{Ghosts as SourceGhosts}
use Rattle.line_plant.specs.declared.hearing.Answer.{Answer}
use Rattle.line_plant.specs.declared.hearing.Answer.TheVariants.{Well, Failed, Lost}

-- a number, and a line feed
abbrev pub ended : ℕ → List ℕ
ended number = decimal number ++ 10 ∷ []

-- `well NUMBER`, and a line feed
abbrev pub well_line : ℕ → List ℕ
well_line number = codes "well " ++ ended number

-- `failed NUMBER`, and a line feed
abbrev pub failed_line : ℕ → List ℕ
failed_line number = codes "failed " ++ ended number

-- what is told to be left begins with these bytes
abbrev pub BeginsWith : Option (List ℕ) → List ℕ → Type 0
BeginsWith left bytes = (rest : List ℕ) × (left ≡ Some (bytes ++ rest))

-- these bytes don't come next: a read failed, or none did, and what is told to be left doesn't begin with them
abbrev pub IsNotNext : Option (List ℕ) → ℕ → ℕ → List ℕ → Type 0
IsNotNext left faults_before faults_after bytes =
    (faults_after ≡ counted_up faults_before) ⊎ ((faults_after ≡ faults_before) × (BeginsWith left bytes → ⊥))

-- just this line was taken, and no read failed
pub record WasHeard {S : Type 0} (ghosts : SourceGhosts S) (before after : S) (words : List ℕ) : Type 0 where
  pub taken : ghosts.left before ≡ prepend_known words (ghosts.left after)
  pub unfailed : ghosts.faults after ≡ ghosts.faults before

-- no answer of this number came: neither line comes next
pub record WasNotHeard {S : Type 0} (ghosts : SourceGhosts S) (before after : S) (number : ℕ) : Type 0 where
  pub not_well : IsNotNext (ghosts.left before) (ghosts.faults before) (ghosts.faults after) (well_line number)
  pub not_failed : IsNotNext (ghosts.left before) (ghosts.faults before) (ghosts.faults after) (failed_line number)

-- the device did what was asked
abbrev pub is_well : Answer → Bool
is_well Well = true
is_well Failed = false
is_well Lost = false

-- what was heard of the command of this number
abbrev pub Heard : {S : Type 0} → SourceGhosts S → ℕ → S → S → Answer → Type 0
Heard ghosts number before after Well = WasHeard ghosts before after (well_line number)
Heard ghosts number before after Failed = WasHeard ghosts before after (failed_line number)
Heard ghosts number before after Lost = WasNotHeard ghosts before after number
