-- How the members of a play by messages take turns.
use Rattle.std.specs.Prelude.{ℕ, zero, suc, ◌+◌, ◌*◌, ◌/◌, ◌%◌, ◌==◌, if◌then◌else◌, List, [], ◌∷◌, length, slice_index, slice_get, Option, Some, None}
use Rattle.caa_base.specs.Written.Mixing.{turn_number}
use Rattle.cover_table.specs.Cover.{CoverOrder}
use Rattle.place_plan.specs.Plans.PlanValue.{Plan}
use Rattle.place_plan.specs.Plans.Places.{roles_of, body_of, internal_of}
use Rattle.place_plan.specs.declared.drafts.draft_rows.Step.{Step}
use Rattle.place_plan.specs.declared.drafts.draft_rows.Step.TheVariants as step
use Rattle.message_resolution.specs.declared.world.event.Event.{Event}
use Rattle.message_resolution.specs.declared.world.event.Event.TheVariants.{Raise, Deliver}
use Rattle.message_resolution.specs.Histories.Courses.{Course, course_of, all_raised}
use Rattle.message_resolution.specs.Histories.Legal.{is_legal_event}

-- the members are the roles of the first place, in order; a plan without plays has no place, and so no members
abbrev pub members : Plan → ℕ
members plan = length (roles_of plan 0)

-- the order of the exceptions that are raised there
abbrev pub order_of : Plan → CoverOrder
order_of plan = internal_of plan 0

-- the participant that plays the role of a member
abbrev pub participant : Plan → ℕ → ℕ
participant plan member = slice_index (roles_of plan 0) member

-- the exception that a first step raises, if there is one and it raises
abbrev pub raised_first : Option Step → Option ℕ
raised_first (Some (step.Raise exception)) = Some exception
raised_first _ = None

-- what a member wishes to raise: what the first step of its body raises
abbrev pub wish : Plan → ℕ → Option ℕ
wish plan member = raised_first (slice_get (body_of plan 0 (participant plan member)).steps 0)

-- what has come of a past
abbrev pub course : Plan → List Event → Course
course plan past = course_of (order_of plan) (members plan) past

-- an event happens where it is legal, and else the turn passes
abbrev pub with_legal : Plan → List Event → Event → List Event
with_legal plan past e = if is_legal_event (course plan past) e then e ∷ past else past

-- a message is delivered to a member, by a number that is taken among those that were sent; without any the turn passes
abbrev pub with_delivery : Plan → List Event → ℕ → ℕ → List Event
with_delivery plan past member number =
    let sent = length (course plan past).messages in
    if sent == 0 then past else with_legal plan past (Deliver member (number % sent))

-- a member that wishes to raise, and may, raises; any other is delivered a message
abbrev pub with_wish : Plan → List Event → ℕ → ℕ → Option ℕ → List Event
with_wish plan past member number None = with_delivery plan past member number
with_wish plan past member number (Some exception) =
    if is_legal_event (course plan past) (Raise member exception) then Raise member exception ∷ past
    else with_delivery plan past member number

-- the turn of this number: the member goes by it, and the message by its sixteenth
abbrev pub with_turn : Plan → List Event → ℕ → List Event
with_turn plan past number =
    with_wish plan past (number % members plan) (number / 16) (wish plan (number % members plan))

-- what has happened after so many turns
unfoldable pub after_turns : Plan → ℕ → ℕ → List Event
after_turns plan seed zero = []
after_turns plan seed (suc turns) = with_turn plan (after_turns plan seed turns) (turn_number seed (suc turns))

-- a member with what it wishes to raise; else what the others come to
abbrev pub wished_or : ℕ → Option ℕ → Option (ℕ × ℕ) → Option (ℕ × ℕ)
wished_or member None others = others
wished_or member (Some exception) others = Some (member, exception)

-- the first of so many members from this one on that wishes to raise something, with what it wishes
unfoldable pub first_wish : Plan → ℕ → ℕ → Option (ℕ × ℕ)
first_wish plan member zero = None
first_wish plan member (suc more) = wished_or member (wish plan member) (first_wish plan (member + 1) more)

-- a member that wishes to raise something, if there is one, raises it
abbrev pub with_raise : List Event → Option (ℕ × ℕ) → List Event
with_raise past None = past
with_raise past (Some wish) = Raise wish.0 wish.1 ∷ past

-- where nothing was raised, the first member that wishes to raise something raises it after all
abbrev pub with_last_wish : Plan → List Event → List ℕ → List Event
with_last_wish plan past [] = with_raise past (first_wish plan 0 (members plan))
with_last_wish plan past (exception ∷ more) = past

-- what has happened before the network settles: four turns for each member, and perhaps one raise more
abbrev pub before_settling : Plan → ℕ → List Event
before_settling plan seed =
    let past = after_turns plan seed (4 * members plan) in
    with_last_wish plan past (all_raised past)
