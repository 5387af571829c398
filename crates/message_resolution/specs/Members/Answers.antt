-- When a member may resolve, what it sends, and what it decides.
use Rattle.std.specs.Prelude.{ℕ, ◌==◌, Bool, false, not, ◌&&◌, ◌||◌, if◌then◌else◌, List, [], ◌∷◌, ◌++◌, map}
use Rattle.std.specs.List.{list_all, range_with_len}
use Rattle.cover_table.specs.Cover.{CoverOrder}
use Rattle.message_resolution.specs.declared.node.message.Message.{Message}
use Rattle.message_resolution.specs.declared.node.message.Message.TheVariants.{Raised, Suspended, Resolved}
use Rattle.message_resolution.specs.Members.LeastCover.{least_cover}
use Rattle.message_resolution.specs.Members.LocalEvents.{LocalEvent, raises, receives, has_raised, has_spoken, has_heard, has_greater, told, resolved_at}

-- each other member was heard
abbrev pub has_heard_all : ℕ → ℕ → List LocalEvent → Bool
has_heard_all count me past = list_all (λ u. u == me || has_heard past u) (range_with_len 0 count)

-- `me` has raised, has heard each other member, and was told of no raiser with a greater number
abbrev pub may_resolve : ℕ → ℕ → List LocalEvent → Bool
may_resolve count me past = has_raised past && (has_heard_all count me past && not (has_greater me past))

-- there was an event after which `me` might resolve
abbrev pub has_resolved : ℕ → ℕ → List LocalEvent → Bool
has_resolved count me [] = false
has_resolved count me (x ∷ past) = may_resolve count me (x ∷ past) || has_resolved count me past

-- with the first event after which `me` may resolve, it resolves to the least cover of all that it was told
abbrev pub resolution : CoverOrder → ℕ → ℕ → List LocalEvent → LocalEvent → List ℕ
resolution order count me past x =
    if may_resolve count me (x ∷ past) && not (has_resolved count me past) then least_cover order (told (x ∷ past)) ∷ [] else []

-- who raises says so, and who is told of it for the first time, and has raised nothing, says that it is suspended
abbrev pub word : ℕ → List LocalEvent → LocalEvent → List Message
word me past (raises exception) = Raised me exception ∷ []
word me past (receives (Raised from exception)) = if has_spoken past then [] else Suspended me ∷ []
word me past (receives (Suspended from)) = []
word me past (receives (Resolved from exception)) = []

-- what `me` sends to all others at an event, after these others
abbrev pub answers : CoverOrder → ℕ → ℕ → List LocalEvent → LocalEvent → List Message
answers order count me past x = word me past x ++ map (λ e. Resolved me e) (resolution order count me past x)

-- what `me` has decided: what it resolved to, and what a Resolved told it
abbrev pub decisions : CoverOrder → ℕ → ℕ → List LocalEvent → List ℕ
decisions order count me [] = []
decisions order count me (x ∷ past) = (resolution order count me past x ++ resolved_at x) ++ decisions order count me past
