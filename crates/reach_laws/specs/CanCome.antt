-- What can come in the places of an action, by the plan alone and whatever the device answers: what is raised and resolved there,
-- how they end, and which alternates are entered.
use Rattle.std.specs.Prelude.{◌≡◌, ℕ, ◌==◌, ◌<◌, Bool, true, false, not, ◌&&◌, if◌then◌else◌, List, map, length, slice_index_or, slice_get, Option, Some, None, suc}
use Rattle.std.specs.List.{list_all, list_any}
use Rattle.cover_table.specs.Cover.{IsLeastCover}
use Rattle.caa_base.specs.declared.written.entry.Outcome.{Outcome}
use Rattle.caa_base.specs.declared.written.entry.Outcome.TheVariants as outcome
use Rattle.caa_base.specs.declared.written.entry.Verdict.{Verdict}
use Rattle.place_plan.specs.declared.drafts.draft_rows.ActionRow.{ActionRow}
use Rattle.place_plan.specs.declared.drafts.draft_rows.NestRow.{NestRow}
use Rattle.place_plan.specs.declared.drafts.draft_rows.RoleRow.{RoleRow}
use Rattle.place_plan.specs.declared.drafts.draft_rows.Step.{Step}
use Rattle.place_plan.specs.Plans.PlanValue.{Plan}
use Rattle.caa_base.specs.Written.Lists.{member, is_empty}
use Rattle.place_plan.specs.Plans.Places.{graph_at, no_action, no_nest, no_role}
use Rattle.reach_laws.specs.ReachedSteps.{is_endless, can_raise, reached_step, is_enter, body_enters, answer_to, can_fail_at, names_at_abort, EndsBy}

-- ---- actions

-- the action of this number
abbrev pub action_of : Plan → ℕ → ActionRow
action_of plan a = slice_index_or plan.actions a no_action

-- the use of this number of an action
abbrev pub use_in : ActionRow → ℕ → NestRow
use_in action k = slice_index_or action.nests k no_nest

-- the step of this number in the body of the role r, where somebody comes to it
abbrev pub step_in : ActionRow → ℕ → ℕ → Option Step
step_in action r i = reached_step (slice_index_or action.roles r no_role) i

-- each role of the use k comes to the step that enters it
abbrev pub is_entered : ActionRow → ℕ → Bool
is_entered action k = list_all (λ r. body_enters k (slice_index_or action.roles r no_role)) (use_in action k).roles

-- each body has an end that its role comes to where nothing is raised
abbrev pub bodies_end : ActionRow → Bool
bodies_end action = list_all (λ (role : RoleRow). not (is_endless role.body)) action.roles

-- what the roles say at the end of their bodies
abbrev pub body_verdicts : ActionRow → List Verdict
body_verdicts action = map (λ (role : RoleRow). role.body.verdict) action.roles

-- what the roles say once x is resolved, unless a handler is broken off
abbrev pub answers : ActionRow → ℕ → List Verdict
answers action x = map (answer_to x) action.roles

-- some role can name z where a place of the action is given up
abbrev pub can_name : ActionRow → ℕ → Bool
can_name action z = list_any (λ (role : RoleRow). names_at_abort z role.abort) action.roles

-- what a use makes of the way in which its action ends: an undo is told outside only where no further alternate is left
abbrev pub made_of : NestRow → Bool → Outcome → Option ℕ
made_of nest is_last outcome.Commit = None
made_of nest is_last (outcome.Signal x) = Some (slice_index_or nest.maps x 0)
made_of nest is_last outcome.Undone = if is_last then Some nest.undo else None
made_of nest is_last outcome.Aborted = None
made_of nest is_last outcome.Failed = Some nest.failure

-- ---- sources and their order

-- what raises an exception in a place
pub data Source : Type 0 where
  -- a step of a role, by the number of the role and that of the step
  step_of_role : ℕ → ℕ → Source
  -- the nested use of this number, of which all its roles carry out the same
  nested_use : ℕ → Source
  -- the same where its roles gave up, and each carries out what it named
  given_up_use : ℕ → Source

-- the source is the step i of the role r, or the use that this step enters
abbrev pub stands_at : ActionRow → ℕ → ℕ → Source → Bool
stands_at action r i (step_of_role q j) = (q == r) && (j == i)
stands_at action r i (nested_use k) = is_enter k (step_in action r i)
stands_at action r i (given_up_use k) = is_enter k (step_in action r i)

-- the one has to be over before the other begins: a role comes to the one first, or both are so to a use
pub data IsBefore (action : ActionRow) : Source → Source → Type 0 where
  in_body : (s t : Source) (r i j : ℕ) → i < j → stands_at action r i s ≡ true → stands_at action r j t ≡ true → IsBefore action s t
  through : (s t : Source) (k : ℕ) → IsBefore action s (nested_use k) → IsBefore action (nested_use k) t → IsBefore action s t

-- the step right behind the one that enters a use which was given up: whoever named nothing may raise by it, since others raised before
abbrev pub is_right_behind : ActionRow → Source → Source → Bool
is_right_behind action (given_up_use k) (step_of_role r (suc i)) = is_enter k (step_in action r i)
is_right_behind action s t = false

-- a use was given up
abbrev pub is_given_up : Source → Bool
is_given_up (given_up_use k) = true
is_given_up s = false

-- where the one raises something in a place, the other doesn't raise anything else there
pub data Excludes (action : ActionRow) : Source → Source → Type 0 where
  -- who raises takes no further step, and all carry the same out of a use
  itself : (s : Source) → is_given_up s ≡ false → Excludes action s s
  -- unless it was given up
  or_given_up : (k : ℕ) → Excludes action (nested_use k) (given_up_use k)
  -- what has to be over before the other begins has raised nothing
  earlier : (s t : Source) → IsBefore action s t → is_right_behind action s t ≡ false → Excludes action s t

-- both can raise in one place
pub record AreTogether (action : ActionRow) (s t : Source) : Type 0 where
  pub first : Excludes action s t → ⊥
  pub second : Excludes action t s → ⊥

-- ---- what can come

mutual
  -- the source can raise the exception in a place of the action, also where nothing else is raised there
  pub data CanRaise (plan : Plan) : ℕ → Source → ℕ → Type 0 where
    -- a step that somebody comes to raises it
    by_step : (a r i x : ℕ) (s : Step) → step_in (action_of plan a) r i ≡ Some s
        → can_raise (action_of plan a).fault x s ≡ true → CanRaise plan a (step_of_role r i) x
    -- an alternate of the use ends so, and this is what the use makes of it
    by_use : (a k j b x : ℕ) (how : Outcome) → CanBeTried plan a k j b → CanEnd plan b how
        → made_of (use_in (action_of plan a) k) (suc j == length (use_in (action_of plan a) k).actions) how ≡ Some x
        → CanRaise plan a (nested_use k) x

  -- the source can raise the exception in a place of the action
  pub data CanBeRaised (plan : Plan) : ℕ → Source → ℕ → Type 0 where
    by_itself : (a x : ℕ) (source : Source) → CanRaise plan a source x → CanBeRaised plan a source x
    -- a use is given up, since something else was raised round it: what a role names is carried out
    by_abort : (a k j b z : ℕ) (other : Source) (y : ℕ) → CanBeTried plan a k j b → CanRaise plan a other y
        → AreTogether (action_of plan a) other (nested_use k) → can_name (action_of plan b) z ≡ true
        → CanBeRaised plan a (given_up_use k) (slice_index_or (use_in (action_of plan a) k).maps z 0)
    -- and where it has objects, its undo can fail, which all carry out
    by_failure : (a k j b : ℕ) (other : Source) (y : ℕ) → CanBeTried plan a k j b → CanRaise plan a other y
        → AreTogether (action_of plan a) other (nested_use k) → is_empty (action_of plan b).objects ≡ false
        → CanBeRaised plan a (nested_use k) (use_in (action_of plan a) k).failure

  -- the exception can be resolved in a place of the action: it is the least cover of some that are raised there, each by a source
  -- of its own, of which none excludes another
  pub data CanBeResolved (plan : Plan) : ℕ → ℕ → Type 0 where
    least_of : (a x : ℕ) (raised : List ℕ) (source : ℕ → Source) → 0 < length raised
        → ((y : ℕ) → member y raised ≡ true → CanBeRaised plan a (source y) y)
        → ((y z : ℕ) → member y raised ≡ true → member z raised ≡ true → (y ≡ z → ⊥)
        → Excludes (action_of plan a) (source y) (source z) → ⊥)
        → IsLeastCover (graph_at plan (action_of plan a).internal) raised x → CanBeResolved plan a x

  -- a place of the action that nothing round it gives up can end so
  pub data CanEnd (plan : Plan) : ℕ → Outcome → Type 0 where
    -- nothing is raised in it
    calmly : (a : ℕ) (how : Outcome) → bodies_end (action_of plan a) ≡ true
        → EndsBy (graph_at plan (action_of plan a).interface) (body_verdicts (action_of plan a)) how → CanEnd plan a how
    -- an exception is resolved, and each role that has a handler for it comes to the end of it
    by_answers : (a x : ℕ) (how : Outcome) → CanBeResolved plan a x
        → EndsBy (graph_at plan (action_of plan a).interface) (answers (action_of plan a) x) how → CanEnd plan a how
    -- an exception is resolved, and a handler for it is broken off
    broken_off : (a x : ℕ) → CanBeResolved plan a x → list_any (can_fail_at x) (action_of plan a).roles ≡ true
        → CanEnd plan a outcome.Undone
    -- it is undone, and the device refuses to take an object back
    not_taken_back : (a : ℕ) → CanEnd plan a outcome.Undone → is_empty (action_of plan a).objects ≡ false
        → CanEnd plan a outcome.Failed

  -- the use k of the action can come to its alternate j, the action b: each of its roles comes to the step that enters it, and
  -- all alternates before j can end undone
  pub data CanBeTried (plan : Plan) : ℕ → ℕ → ℕ → ℕ → Type 0 where
    in_turn : (a k j b : ℕ) → is_entered (action_of plan a) k ≡ true → slice_get (use_in (action_of plan a) k).actions j ≡ Some b
        → ((i c : ℕ) → i < j → slice_get (use_in (action_of plan a) k).actions i ≡ Some c → CanEnd plan c outcome.Undone)
        → CanBeTried plan a k j b
