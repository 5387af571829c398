-- A node between taking an event in and resolving.
use Rattle.std.specs.Prelude.{◌≡◌, ℕ, ◌<◌, ◌==◌, ◌||◌, false, List, [], ◌∷◌, ◌++◌, length, slice_index_or, Option, Some, None, All, map}
use Rattle.cover_table.specs.Cover.{CoverOrder, IsOrder}
use Rattle.message_resolution.specs.declared.node.message.Message.{Message}
use Rattle.message_resolution.specs.declared.node.message.Message.TheVariants as message
use Rattle.message_resolution.specs.declared.node.state.State.{State}
use Rattle.message_resolution.specs.declared.node.state.State.TheVariants.{Normal, Raised, Suspended}
use Rattle.message_resolution.specs.Members.LocalEvents.{LocalEvent, told, has_heard, has_greater, resolved_at}
use Rattle.message_resolution.specs.Members.Answers.{has_resolved, decisions, resolution, word}
use Rattle.message_resolution.specs.Members.Nodes.{Known, MayMeet, StandsFor, IsCoverOf, IsOneOf, state_of, listed}

-- one exception or none, as a list
abbrev pub as_list : Option ℕ → List ℕ
as_list None = []
as_list (Some e) = e ∷ []

-- the node has taken x in after these events, and has yet to resolve if it may
pub record HasTakenIn (order : CoverOrder) (past : List LocalEvent) (x : LocalEvent) (node : Known) : Type 0 where
  pub member : node.me < node.count
  pub met : All (MayMeet order node.count node.me) (x ∷ past)
  pub state : node.state ≡ state_of (x ∷ past)
  pub members : length node.heard ≡ node.count
  pub heard : (u : ℕ) → u < node.count → slice_index_or node.heard u false ≡ (u == node.me || has_heard (x ∷ past) u)
  pub cover : IsCoverOf order (told (x ∷ past)) node.cover
  pub greater : node.has_greater ≡ has_greater node.me (x ∷ past)
  pub resolved : node.has_resolved ≡ has_resolved node.count node.me past
  pub decided : IsOneOf (resolved_at x ++ decisions order node.count node.me past) node.decided

-- whatever the node stood for, it takes one more event in, and says what its member does
pub record TakesIn (order : CoverOrder) (x : LocalEvent) (old new : Known) (said : Option Message) : Type 0 where
  pub me : new.me ≡ old.me
  pub count : new.count ≡ old.count
  pub taken : (past : List LocalEvent) → StandsFor order past old → HasTakenIn order past x new
  pub says : (past : List LocalEvent) → StandsFor order past old → listed said ≡ word old.me past x

-- what a node that has taken an event in resolves to
abbrev pub IsResolutionOf : Known → Option ℕ → Type 0
IsResolutionOf node found =
    (order : CoverOrder) (past : List LocalEvent) (x : LocalEvent) → IsOrder order → HasTakenIn order past x node
    → as_list found ≡ resolution order node.count node.me past x

-- whatever the node has taken in, it sends its resolution if it has one, and then stands for the event too
pub record Resolves (old new : Known) (sent : Option Message) : Type 0 where
  pub me : new.me ≡ old.me
  pub count : new.count ≡ old.count
  pub stands : (order : CoverOrder) (past : List LocalEvent) (x : LocalEvent) → IsOrder order → HasTakenIn order past x old
      → StandsFor order (x ∷ past) new
  pub sends : (order : CoverOrder) (past : List LocalEvent) (x : LocalEvent) → IsOrder order → HasTakenIn order past x old
      → listed sent ≡ map (λ e. message.Resolved old.me e) (resolution order old.count old.me past x)

-- where the node was Normal it is Suspended and says so, and else nothing changes
abbrev pub SuspendsFrom : Known → State → Known → Option Message → Type 0
SuspendsFrom old Normal new said = (new ≡ record old { state = Suspended }) × (said ≡ Some (message.Suspended old.me))
SuspendsFrom old (Raised e) new said = (new ≡ old) × (said ≡ None)
SuspendsFrom old Suspended new said = (new ≡ old) × (said ≡ None)

abbrev pub Suspends : Known → Known → Option Message → Type 0
Suspends old new said = SuspendsFrom old old.state new said
