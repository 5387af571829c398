-- What comes in a place can come in the places of its action. `past` is the entries of a legal journal, the newest first.
use Rattle.std.specs.Prelude.{◌≡◌, ℕ, ◌⊎◌, true, false, List, Some}
use Rattle.caa_base.specs.declared.written.entry.Entry.{Entry}
use Rattle.caa_base.specs.declared.written.entry.Kind.TheVariants as kind
use Rattle.caa_base.specs.declared.written.entry.Outcome.TheVariants as outcome
use Rattle.place_plan.specs.Plans.PlanValue.{Plan}
use Rattle.caa_base.specs.Written.Lists.{member, is_empty}
use Rattle.place_plan.specs.Plans.Places.{place_at, parent, objects_of, nest_number, next_alternate}
use Rattle.place_plan.specs.RulesOfJournals.Entries.{is_in, has, newest}
use Rattle.place_plan.specs.RulesOfJournals.Whereabouts.{outcome_at, has_started}
use Rattle.place_plan.specs.RulesOfJournals.Raising.{exceptions_raised, exception_resolved}
use Rattle.reach_laws.specs.CanCome.{Source, CanBeRaised, CanBeResolved, CanEnd, CanBeTried}

-- the number of the action that p is an instance of
abbrev pub action_number : Plan → ℕ → ℕ
action_number plan p = (place_at plan p).action

-- nothing is raised in a place but what can be raised in its action
abbrev pub RaisesNoOther : Plan → List Entry → Type 0
RaisesNoOther plan past =
    (p x : ℕ) → member x (exceptions_raised plan past p) ≡ true
    → (source : Source) × CanBeRaised plan (action_number plan p) source x

-- no place is resolved to anything but what can be resolved in its action
abbrev pub ResolvesNoOther : Plan → List Entry → Type 0
ResolvesNoOther plan past = (p x : ℕ) → exception_resolved past p ≡ Some x → CanBeResolved plan (action_number plan p) x

-- no place ends otherwise than its action can end
pub record EndsNotOtherwise (plan : Plan) (past : List Entry) : Type 0 where
  -- one whose roles don't give up ends as its action can
  pub ended : (p : ℕ) (e : Entry) → newest (is_in kind.End p) past ≡ Some e → has kind.Abort past p ≡ false
      → CanEnd plan (action_number plan p) (outcome_at e)
  -- one whose roles give up ends aborted, or failed where it has an object
  pub given_up : (p : ℕ) (e : Entry) → newest (is_in kind.End p) past ≡ Some e → has kind.Abort past p ≡ true
      → (outcome_at e ≡ outcome.Aborted) ⊎ ((outcome_at e ≡ outcome.Failed) × (is_empty (objects_of plan p) ≡ false))

-- no place of a nested use is entered but as its action can be tried
pub record TriesNoOther (plan : Plan) (past : List Entry) : Type 0 where
  -- nobody comes to the alternate behind one whose action can't end undone
  pub behind : (c d : ℕ) → next_alternate plan c ≡ Some d → has kind.Arrive past d ≡ true
      → CanEnd plan (action_number plan c) outcome.Undone
  -- a place of a nested use starts only where its action can be tried there
  pub started : (p c : ℕ) → parent plan c ≡ Some p → has_started past c ≡ true
      → (turn : ℕ) × CanBeTried plan (action_number plan p) (nest_number plan c) turn (action_number plan c)
