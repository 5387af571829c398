-- What a node keeps, and the histories of its member that it stands for.
use Rattle.std.specs.Prelude.{◌≡◌, ◌≢◌, ℕ, ◌<◌, ◌==◌, ◌||◌, Bool, true, false, List, [], ◌∷◌, ◌++◌, length, slice_index_or, Option, Some, None, MatchOption, IfNone, All, Contains}
use Rattle.cover_table.specs.Cover.{CoverOrder, IsLeastCover}
use Rattle.message_resolution.specs.declared.node.message.Message.{Message}
use Rattle.message_resolution.specs.declared.node.message.Message.TheVariants as message
use Rattle.message_resolution.specs.declared.node.sent.Sent.{Sent}
use Rattle.message_resolution.specs.declared.node.state.State.{State}
use Rattle.message_resolution.specs.declared.node.state.State.TheVariants.{Normal, Raised, Suspended}
use Rattle.message_resolution.specs.Members.LocalEvents.{LocalEvent, raises, receives, own, told, has_spoken, has_heard, has_greater}
use Rattle.message_resolution.specs.Members.Answers.{has_resolved, decisions, answers}

-- one message or none, as a list
abbrev pub listed : Option Message → List Message
listed None = []
listed (Some m) = m ∷ []

-- what one event sends, in order
abbrev pub messages_of : Sent → List Message
messages_of sent = listed sent.first ++ listed sent.second

-- who sent a message
abbrev pub sender_of : Message → ℕ
sender_of (message.Raised from exception) = from
sender_of (message.Suspended from) = from
sender_of (message.Resolved from exception) = from

-- its sender is a member, and its exception one of the graph
abbrev pub IsMessage : CoverOrder → ℕ → Message → Type 0
IsMessage order count (message.Raised from exception) = (from < count) × (exception < order.count)
IsMessage order count (message.Suspended from) = from < count
IsMessage order count (message.Resolved from exception) = (from < count) × (exception < order.count)

-- what may meet `me`: an exception of the graph, or a message of another member
abbrev pub MayMeet : CoverOrder → ℕ → ℕ → LocalEvent → Type 0
MayMeet order count me (raises exception) = exception < order.count
MayMeet order count me (receives m) = IsMessage order count m × (sender_of m ≢ me)

-- Raised where the member has raised, Suspended where it said so, and else Normal
abbrev pub state_with : List ℕ → Bool → State
state_with (e ∷ earlier) spoken = Raised e
state_with [] true = Suspended
state_with [] false = Normal

abbrev pub state_of : List LocalEvent → State
state_of past = state_with (own past) (has_spoken past)

-- no more members than this take part
abbrev pub most_members : ℕ
most_members = 16

-- what a node keeps: its number, the count of members, its state, whom it has heard, the least cover of all that it was told, whether
-- a greater member has raised, whether it has resolved, and what it has decided
pub record Known : Type 0 where
  pub me : ℕ
  pub count : ℕ
  pub state : State
  pub heard : List Bool
  pub cover : Option ℕ
  pub has_greater : Bool
  pub has_resolved : Bool
  pub decided : Option ℕ

-- the least cover of a list, or nothing where the list is empty
abbrev pub IsCoverOf : CoverOrder → List ℕ → Option ℕ → Type 0
IsCoverOf order xs cover = MatchOption cover (xs ≡ []) (IsLeastCover order xs)

-- one of a list, or nothing where the list is empty
abbrev pub IsOneOf : List ℕ → Option ℕ → Type 0
IsOneOf xs one = MatchOption one (xs ≡ []) (Contains xs)

-- the node keeps just what its member knows after these events
pub record StandsFor (order : CoverOrder) (past : List LocalEvent) (node : Known) : Type 0 where
  pub member : node.me < node.count
  pub met : All (MayMeet order node.count node.me) past
  pub state : node.state ≡ state_of past
  pub members : length node.heard ≡ node.count
  pub heard : (u : ℕ) → u < node.count → slice_index_or node.heard u false ≡ (u == node.me || has_heard past u)
  pub cover : IsCoverOf order (told past) node.cover
  pub greater : node.has_greater ≡ has_greater node.me past
  pub resolved : node.has_resolved ≡ has_resolved node.count node.me past
  pub decided : IsOneOf (decisions order node.count node.me past) node.decided

-- the node stands for some events of its member, with exceptions of this order
abbrev pub IsNodeOf : CoverOrder → Known → Type 0
IsNodeOf order node = (past : List LocalEvent) × StandsFor order past node

-- whatever the node stood for, it sends what its member sends with one more event, and then stands for that event too; it stays the
-- node of its member, and a lone message comes first
pub record Meets (order : CoverOrder) (x : LocalEvent) (old new : Known) (sent : Sent) : Type 0 where
  pub me : new.me ≡ old.me
  pub count : new.count ≡ old.count
  pub lone : IfNone sent.first (sent.second ≡ None)
  pub stands : (past : List LocalEvent) → StandsFor order past old → StandsFor order (x ∷ past) new
  pub sends : (past : List LocalEvent) → StandsFor order past old → messages_of sent ≡ answers order old.count old.me past x
