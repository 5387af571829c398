-- The text of a play by messages.
use Rattle.std.specs.Prelude.{◌≡◌, ℕ, List, [], ◌∷◌, ◌++◌, ◌+◌, length, slice_get, slice_index_or, reverse, Option, Some, None, codes, decimal}
use Rattle.std.specs.List.{flat_map}
use Rattle.caa_base.specs.Written.Lines.{line}
use Rattle.place_plan.specs.Plans.PlanValue.{Plan}
use Rattle.place_plan.specs.Plans.Places.{action_at, exception_name}
use Rattle.message_resolution.specs.declared.world.event.Event.{Event}
use Rattle.message_resolution.specs.declared.world.event.Event.TheVariants.{Raise, Deliver}
use Rattle.message_resolution.specs.Members.Answers.{decisions}
use Rattle.message_resolution.specs.Members.Nodes.{IsCoverOf, IsOneOf}
use Rattle.message_resolution.specs.Histories.Courses.{all_raised}
use Rattle.message_resolution.specs.Histories.Settling.{Settles}
use Rattle.message_plays.specs.Turns.{members, order_of, participant, course, before_settling}

-- the name of a member: that of the participant that plays its role
abbrev pub member_name : Plan → ℕ → List ℕ
member_name plan member = slice_index_or plan.participants (participant plan member) []

-- the name of an exception of the first place
abbrev pub name_of_exception : Plan → ℕ → List ℕ
name_of_exception plan exception = exception_name plan (action_at plan 0).internal exception

-- the line of an event
abbrev pub event_line : Plan → Event → List ℕ
event_line plan (Raise by exception) = line (codes "raise") (member_name plan by ∷ name_of_exception plan exception ∷ [])
event_line plan (Deliver to number) = line (codes "deliver") (decimal number ∷ member_name plan to ∷ [])

-- the name of what was decided, if anything was
abbrev pub decision_name : Plan → Option ℕ → List ℕ
decision_name plan None = codes "none"
decision_name plan (Some exception) = name_of_exception plan exception

-- the line of what a member has decided
abbrev pub resolved_line : Plan → ℕ → Option ℕ → List ℕ
resolved_line plan member decided = line (codes "resolved") (member_name plan member ∷ decision_name plan decided ∷ [])

-- the lines of what the members from this one on have decided
abbrev pub resolved_lines : Plan → ℕ → List (Option ℕ) → List ℕ
resolved_lines plan member [] = []
resolved_lines plan member (decided ∷ more) = resolved_line plan member decided ++ resolved_lines plan (member + 1) more

-- the events in order, and what each member has decided
abbrev pub text_of : Plan → List Event → List (Option ℕ) → List ℕ
text_of plan past decided = (codes "messages\n" ++ flat_map (event_line plan) (reverse past)) ++ resolved_lines plan 0 decided

-- the text is that of what happens by the turns of the seed and by settling; what it tells of each member is what that has decided,
-- and the least cover of everything that was raised, or that nothing was
pub record IsPlayedByMessages (plan : Plan) (seed : ℕ) (text : List ℕ) : Type 0 where
  pub past : List Event
  pub settles : Settles (order_of plan) (members plan) (before_settling plan seed) past
  pub decided : List (Option ℕ)
  pub all : length decided ≡ members plan
  pub own : (t : ℕ) (found : Option ℕ) → slice_get decided t ≡ Some found
      → IsOneOf (decisions (order_of plan) (members plan) t ((course plan past).local t)) found
  pub least : (t : ℕ) (found : Option ℕ) → slice_get decided t ≡ Some found → IsCoverOf (order_of plan) (all_raised past) found
  pub told : text ≡ text_of plan past decided
