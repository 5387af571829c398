-- Worked histories, by computation.
use Rattle.std.specs.Prelude.{◌≡◌, ℕ, true, false, List, [], ◌∷◌, refl}
use Rattle.cover_table.specs.Cover.{CoverOrder}
use Rattle.message_resolution.specs.declared.node.message.Message.TheVariants as message
use Rattle.message_resolution.specs.declared.node.state.State.TheVariants as state
use Rattle.message_resolution.specs.declared.world.event.Event.{Event}
use Rattle.message_resolution.specs.declared.world.event.Event.TheVariants as event
use Rattle.message_resolution.specs.Members.Nodes.{state_of}
use Rattle.message_resolution.specs.Members.Answers.{decisions}
use Rattle.message_resolution.specs.Histories.Courses.{course_of, all_raised}
use Rattle.message_resolution.specs.Histories.Legal.{is_legal_event}

-- universal; mid over left and right; left; right; far
abbrev tree : CoverOrder
tree = record { count = 5; rows = 31 ∷ 14 ∷ 4 ∷ 8 ∷ 16 ∷ [] }

abbrev decided_by : ℕ → List Event → ℕ → List ℕ
decided_by count past t = decisions tree count t ((course_of tree count past).local t)

-- two members raise at once: the greater resolves when it has heard the other, and tells it
abbrev both : List Event
both = event.Deliver 0 2 ∷ event.Deliver 0 1 ∷ event.Deliver 1 0 ∷ event.Deliver 1 0 ∷ event.Raise 1 3 ∷ event.Raise 0 2 ∷ []

pub both_send : (course_of tree 2 both).messages ≡ message.Raised 0 2 ∷ message.Raised 1 3 ∷ message.Resolved 1 1 ∷ []
both_send = refl

pub both_raise : all_raised both ≡ 3 ∷ 2 ∷ []
both_raise = refl

pub both_decide_first : decided_by 2 both 0 ≡ 1 ∷ []
both_decide_first = refl

pub both_decide_second : decided_by 2 both 1 ≡ 1 ∷ []
both_decide_second = refl

-- the greater member is told first, and may raise no more; the other resolves alone
abbrev one : List Event
one = event.Deliver 0 1 ∷ event.Deliver 1 0 ∷ event.Raise 0 2 ∷ []

pub one_sends : (course_of tree 2 one).messages ≡ message.Raised 0 2 ∷ message.Suspended 1 ∷ message.Resolved 0 2 ∷ []
one_sends = refl

pub one_suspends : state_of ((course_of tree 2 one).local 1) ≡ state.Suspended
one_suspends = refl

pub one_may_not_raise : is_legal_event (course_of tree 2 one) (event.Raise 1 3) ≡ false
one_may_not_raise = refl

-- nobody hears its own message, nor one that was not sent
pub own_is_not_delivered : is_legal_event (course_of tree 2 one) (event.Deliver 0 0) ≡ false
own_is_not_delivered = refl

pub unsent_is_not_delivered : is_legal_event (course_of tree 2 one) (event.Deliver 1 3) ≡ false
unsent_is_not_delivered = refl

pub again_is_delivered : is_legal_event (course_of tree 2 one) (event.Deliver 1 0) ≡ true
again_is_delivered = refl

-- who is alone resolves at once
pub alone_sends : (course_of tree 1 (event.Raise 0 4 ∷ [])).messages ≡ message.Raised 0 4 ∷ message.Resolved 0 4 ∷ []
alone_sends = refl

-- of three raisers the greatest waits for both others, and the others never resolve
abbrev three : List Event
three =
    event.Deliver 2 1 ∷ event.Deliver 0 2 ∷ event.Deliver 0 1 ∷ event.Deliver 2 0 ∷ event.Raise 2 4 ∷ event.Raise 1 3 ∷ event.Raise 0 2 ∷ []

pub three_send : (course_of tree 3 three).messages ≡ message.Raised 0 2 ∷ message.Raised 1 3 ∷ message.Raised 2 4
    ∷ message.Resolved 2 0 ∷ []
three_send = refl
