-- How the network delivers all that it has not delivered.
use Rattle.std.specs.Prelude.{◌≡◌, ℕ, ◌<◌, true, List, ◌∷◌, slice_get, Contains}
use Rattle.cover_table.specs.Cover.{CoverOrder, ComesBefore}
use Rattle.message_resolution.specs.declared.world.event.Event.{Event}
use Rattle.message_resolution.specs.declared.world.event.Event.TheVariants.{Deliver}
use Rattle.message_resolution.specs.Histories.Courses.{course_of, HasDecided}
use Rattle.message_resolution.specs.Histories.Legal.{is_from_other}

-- a message of another member was sent, and never delivered to t
pub record IsDue (order : CoverOrder) (count : ℕ) (past : List Event) (number t : ℕ) : Type 0 where
  pub member : t < count
  pub other : is_from_other t (slice_get (course_of order count past).messages number) ≡ true
  pub never : ¬ (Contains past (Deliver t number))

-- each message was delivered to each other member
abbrev pub IsSettled : CoverOrder → ℕ → List Event → Type 0
IsSettled order count past = (number t : ℕ) → ¬ (IsDue order count past number t)

-- the first that is due, by the number of the message and then by the member
pub record IsFirstDue (order : CoverOrder) (count : ℕ) (past : List Event) (number t : ℕ) : Type 0 where
  pub due : IsDue order count past number t
  pub first : (n u : ℕ) → ComesBefore n u number t → ¬ (IsDue order count past n u)

-- the first that is due is delivered, again and again, until nothing is due
pub data Settles (order : CoverOrder) (count : ℕ) : List Event → List Event → Type 0 where
  settled : {past : List Event} → IsSettled order count past → Settles order count past past
  delivers : {past new : List Event} {number t : ℕ} → IsFirstDue order count past number t
      → Settles order count (Deliver t number ∷ past) new → Settles order count past new

-- each member has decided an exception
abbrev pub AllHaveDecided : CoverOrder → ℕ → List Event → Type 0
AllHaveDecided order count past = (t : ℕ) → t < count → (e : ℕ) × HasDecided order count past t e
