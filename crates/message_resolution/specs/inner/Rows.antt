-- How settling goes from message to message, and for each from member to member.
use Rattle.std.specs.Prelude.{◌≡◌, ℕ, ◌+◌, ◌≤◌, ◌⊎◌, List, ◌∷◌, length}
use Rattle.cover_table.specs.Cover.{CoverOrder, ComesBefore}
use Rattle.message_resolution.specs.declared.world.event.Event.{Event}
use Rattle.message_resolution.specs.declared.world.event.Event.TheVariants.{Deliver}
use Rattle.message_resolution.specs.Histories.Legal.{LegalPast}
use Rattle.message_resolution.specs.Histories.Settling.{IsDue, Settles}
use Rattle.message_resolution.specs.inner.Runs.{RunView}

-- the message is delivered where it is due, and else nothing changes
pub record DeliversDue (old new : RunView) (number t : ℕ) : Type 0 where
  pub order : new.order ≡ old.order
  pub count : new.count ≡ old.count
  pub room : new.event_room ≡ old.event_room
  pub legal : LegalPast old.order old.count old.past
  pub past : (IsDue old.order old.count old.past number t × (new.past ≡ Deliver t number ∷ old.past))
      ⊎ (¬ (IsDue old.order old.count old.past number t) × (new.past ≡ old.past))

-- what was due before this message and member was delivered in order, and what is due now is the rest
pub record SettlesUpTo (order : CoverOrder) (count : ℕ) (start past : List Event) (number t : ℕ) : Type 0 where
  pub rest : (final : List Event) → Settles order count past final → Settles order count start final
  pub calm : (n u : ℕ) → ComesBefore n u number t → ¬ (IsDue order count past n u)

-- the message is delivered to each member below t to which it is due
pub record DeliversRow (old new : RunView) (number t : ℕ) : Type 0 where
  pub order : new.order ≡ old.order
  pub count : new.count ≡ old.count
  pub room : new.event_room ≡ old.event_room
  pub long : length new.past ≤ length old.past + t
  pub settles : (start : List Event) → SettlesUpTo old.order old.count start old.past number 0
      → SettlesUpTo old.order old.count start new.past number t
