-- Seats, as a manager's owner sees them.
use Rattle.std.specs.Prelude.{◌≡◌, ℕ, ◌==◌, ◌<◌, Bool, true, false, List, length, Option}
use Rattle.std.specs.List.{list_any}
use mathlib.Core.List.{IsPrefix}
use Rattle.atomic_table.specs.Seated.{TableId}
use Rattle.atomic_table.specs.declared.shared.Seat.{Seat as TableSeat}
use Rattle.shared_views.specs.declared.bulletin.Announcement.{Announcement}
use Rattle.shared_views.specs.declared.bulletin.Announcement.TheVariants as told
use Rattle.action_manager.specs.OwnEntries.{Journal, entries_by}
use Rattle.action_manager.specs.Stepping.{IsAtRest}
use Rattle.action_manager.specs.declared.lock_view.Terms.{Terms}
use Rattle.action_manager.specs.declared.lock_view.View.{View}
use Rattle.action_manager.specs.declared.housed.Housed.{Housed}
use Rattle.action_manager.specs.declared.seat.Seat.{Seat}

-- whose seat it is
abbrev pub participant_of : {M : Type 0} → Seat M → ℕ
participant_of seat = seat.participant

-- its place at the table
abbrev pub token_of : {M : Type 0} → Seat M → TableSeat (Option (Housed M)) View
token_of seat = seat.token

-- the journal that it has seen
abbrev pub seen_by : {M : Type 0} → Seat M → Journal
seen_by seat = seat.token.me.0.seen

-- what its last step told, until it is taken
abbrev pub told_to : {M : Type 0} → Seat M → Announcement
told_to seat = seat.told

-- the seat was opened by the manager of this table, on these terms
pub record IsSeatOf {M : Type 0} (table : TableId) (terms : Terms) (seat : Seat M) : Type 0 where
  pub here : seat.token.table_id ≡ table
  pub rests : IsAtRest terms seat.token.me
  pub known : seat.participant < length terms.plan.participants

-- the two seats are of one manager, and the second one isn't in the middle of a turn
abbrev pub IsBeside : {M : Type 0} → Seat M → Seat M → Type 0
IsBeside first second = IsSeatOf first.token.table_id first.token.me.0.terms second

-- some seat in the list is this participant's
abbrev pub has_seat : {M : Type 0} → ℕ → List (Seat M) → Bool
has_seat t seats = list_any (λ s. s.participant == t) seats

-- what the seat has seen begins the journal, which has no further entry of its participant
pub record Accounts {M : Type 0} (journal : Journal) (seat : Seat M) : Type 0 where
  pub begins : IsPrefix (seen_by seat) journal
  pub alone : entries_by seat.participant journal ≡ entries_by seat.participant (seen_by seat)

-- the seat is new: what it has seen is the journal of the machine as it was handed in
pub record IsNewSeat {M : Type 0} (table : TableId) (terms : Terms) (journal : Journal) (seat : Seat M) : Type 0 where
  pub opened : IsSeatOf table terms seat
  pub seen : seen_by seat ≡ journal
  pub quiet : told_to seat ≡ told.Nothing

-- each participant below this number has a seat in the list
abbrev pub HaveAll : {M : Type 0} → ℕ → List (Seat M) → Type 0
HaveAll participants seats = (t : ℕ) → t < participants → has_seat t seats ≡ true

-- m is the least participant below this number that has no seat in the list
pub record IsLeastMissing {M : Type 0} (participants : ℕ) (seats : List (Seat M)) (m : ℕ) : Type 0 where
  pub known : m < participants
  pub out : has_seat m seats ≡ false
  pub least : HaveAll m seats

-- the participant of a seat, with what the seat has seen
abbrev pub stand : {M : Type 0} → Seat M → ℕ × Journal
stand seat = (seat.token.me.0.who, seen_by seat)
