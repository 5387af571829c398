-- Which events deliver a message to a member.
use Rattle.std.specs.Prelude.{ℕ, ◌==◌, ◌&&◌, Bool, false}
use Rattle.message_resolution.specs.declared.world.event.Event.{Event}
use Rattle.message_resolution.specs.declared.world.event.Event.TheVariants.{Raise, Deliver}

-- the event delivers this message to t
abbrev pub is_delivery : ℕ → ℕ → Event → Bool
is_delivery t number (Raise by exception) = false
is_delivery t number (Deliver to message) = (to == t) && (message == number)
