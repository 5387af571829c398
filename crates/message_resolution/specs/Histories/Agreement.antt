-- What members that have decided agree on.
use Rattle.std.specs.Prelude.{◌≡◌, ℕ, List, ◌++◌}
use Rattle.cover_table.specs.Cover.{CoverOrder, IsLeastCover}
use Rattle.message_resolution.specs.declared.world.event.Event.{Event}
use Rattle.message_resolution.specs.Histories.Courses.{all_raised, HasDecided}
use Rattle.message_resolution.specs.Histories.Legal.{LegalPast}

-- e is the least cover of everything that was raised, and no member has decided anything else
pub record IsAgreed (order : CoverOrder) (count : ℕ) (past : List Event) (e : ℕ) : Type 0 where
  pub least : IsLeastCover order (all_raised past) e
  pub only : (t other : ℕ) → HasDecided order count past t other → other ≡ e

-- whatever legally comes later, nothing more is raised, and all that decide agree on e
pub record StaysAgreed (order : CoverOrder) (count : ℕ) (past later : List Event) (e : ℕ) : Type 0 where
  pub raised : all_raised (later ++ past) ≡ all_raised past
  pub agreed : IsAgreed order count (later ++ past) e

-- e is agreed, and stays so whatever legally comes later
abbrev pub IsAgreedForGood : CoverOrder → ℕ → List Event → ℕ → Type 0
IsAgreedForGood order count past e =
    (later : List Event) → LegalPast order count (later ++ past) → StaysAgreed order count past later e

-- what a member has decided, all agree on for good
abbrev pub DecidersAgree : CoverOrder → ℕ → List Event → Type 0
DecidersAgree order count past = (t e : ℕ) → HasDecided order count past t e → IsAgreedForGood order count past e
