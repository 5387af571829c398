-- A world that plays the first place of a plan, and what is written of it.
use Rattle.std.specs.Prelude.{◌≡◌, ℕ, ◌+◌, ◌<◌, ◌≤◌, List, ◌++◌, length, slice_get, Option, Some, IfSome}
use Rattle.place_plan.specs.Plans.PlanValue.{Plan}
use Rattle.message_resolution.specs.declared.world.event.Event.{Event}
use Rattle.message_resolution.specs.declared.world.event.Event.TheVariants.{Raise, Deliver}
use Rattle.message_resolution.specs.Members.Answers.{decisions}
use Rattle.message_resolution.specs.Members.Nodes.{IsOneOf}
use Rattle.message_resolution.specs.Histories.Agreement.{IsAgreedForGood}
use Rattle.message_resolution.specs.Histories.Worlds.{WorldView}
use Rattle.message_plays.specs.Turns.{members, order_of, course}
use Rattle.message_plays.specs.Texts.{resolved_lines}

-- the world has the members and the exceptions of the first place
pub record IsWorldOf (plan : Plan) (world : WorldView) : Type 0 where
  pub order : world.order ≡ order_of plan
  pub count : world.count ≡ members plan

-- it is still such a world, with the same room, and at most one event more
pub record GoesOn (plan : Plan) (old new : WorldView) : Type 0 where
  pub order : new.order ≡ order_of plan
  pub count : new.count ≡ members plan
  pub room : new.room ≡ old.room
  pub long : length new.past ≤ length old.past + 1

-- the member of an event is there
abbrev pub HasEvent : Plan → Event → Type 0
HasEvent plan (Raise by exception) = by < members plan
HasEvent plan (Deliver to number) = to < members plan

-- for each of the first n members a line was added that tells what it has decided
pub record AddsDecisions (plan : Plan) (past : List Event) (old new : List ℕ) (n : ℕ) : Type 0 where
  pub decided : List (Option ℕ)
  pub all : length decided ≡ n
  pub own : (t : ℕ) (found : Option ℕ) → slice_get decided t ≡ Some found
      → IsOneOf (decisions (order_of plan) (members plan) t ((course plan past).local t)) found
  pub agreed : (t : ℕ) (found : Option ℕ) → slice_get decided t ≡ Some found
      → IfSome found (IsAgreedForGood (order_of plan) (members plan) past)
  pub lines : new ≡ old ++ resolved_lines plan 0 decided
