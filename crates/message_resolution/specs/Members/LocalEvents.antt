-- What one member meets, the newest first, and what it knows by it.
use Rattle.std.specs.Prelude.{ℕ, ◌==◌, nat_lt, Bool, true, false, List, [], ◌∷◌}
use Rattle.std.specs.List.{list_any, flat_map}
use Rattle.message_resolution.specs.declared.node.message.Message.{Message}
use Rattle.message_resolution.specs.declared.node.message.Message.TheVariants.{Raised, Suspended, Resolved}

-- a member raises an exception, or a message is delivered to it
pub data LocalEvent : Type 0 where
  raises : ℕ → LocalEvent
  receives : Message → LocalEvent

-- the exception that a member raises
abbrev pub raised_at : LocalEvent → List ℕ
raised_at (raises exception) = exception ∷ []
raised_at (receives message) = []

-- what a member has raised
abbrev pub own : List LocalEvent → List ℕ
own past = flat_map raised_at past

-- the member raises
abbrev pub is_raise : LocalEvent → Bool
is_raise (raises exception) = true
is_raise (receives message) = false

abbrev pub has_raised : List LocalEvent → Bool
has_raised past = list_any is_raise past

-- the exception that a member raises, or that a Raised tells it
abbrev pub told_at : LocalEvent → List ℕ
told_at (raises exception) = exception ∷ []
told_at (receives (Raised from exception)) = exception ∷ []
told_at (receives (Suspended from)) = []
told_at (receives (Resolved from exception)) = []

-- its own exception and all that it was told were raised
abbrev pub told : List LocalEvent → List ℕ
told past = flat_map told_at past

-- the member raises, or is told that another did: either makes it speak
abbrev pub is_call : LocalEvent → Bool
is_call (raises exception) = true
is_call (receives (Raised from exception)) = true
is_call (receives (Suspended from)) = false
is_call (receives (Resolved from exception)) = false

-- the member has raised, or was told that another did
abbrev pub has_spoken : List LocalEvent → Bool
has_spoken past = list_any is_call past

-- a Raised or a Suspended of u is delivered
abbrev pub is_word_of : ℕ → LocalEvent → Bool
is_word_of u (raises exception) = false
is_word_of u (receives (Raised from exception)) = from == u
is_word_of u (receives (Suspended from)) = from == u
is_word_of u (receives (Resolved from exception)) = false

-- the member has heard u
abbrev pub has_heard : List LocalEvent → ℕ → Bool
has_heard past u = list_any (is_word_of u) past

-- a Raised of a member with a greater number than `me` is delivered
abbrev pub is_greater : ℕ → LocalEvent → Bool
is_greater me (raises exception) = false
is_greater me (receives (Raised from exception)) = nat_lt me from
is_greater me (receives (Suspended from)) = false
is_greater me (receives (Resolved from exception)) = false

-- a member with a greater number than `me` has raised, as `me` was told
abbrev pub has_greater : ℕ → List LocalEvent → Bool
has_greater me past = list_any (is_greater me) past

-- the exception of a Resolved that is delivered
abbrev pub resolved_at : LocalEvent → List ℕ
resolved_at (raises exception) = []
resolved_at (receives (Raised from exception)) = []
resolved_at (receives (Suspended from)) = []
resolved_at (receives (Resolved from exception)) = exception ∷ []
