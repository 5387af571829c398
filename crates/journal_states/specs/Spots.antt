-- Where in its program a participant stands.
use Rattle.std.specs.Prelude.{ℕ, Bool, not, if◌then◌else◌, List, Option, None, Some, is_some}
use Rattle.caa_base.specs.declared.written.entry.Entry.{Entry}
use Rattle.place_plan.specs.Plans.PlanValue.{Plan}
use Rattle.place_plan.specs.RulesOfJournals.Whereabouts.{inside, has_started, has_ended, is_undoing}
use Rattle.place_plan.specs.RulesOfJournals.Raising.{exception_handled}
use Rattle.place_plan.specs.RulesOfJournals.Roles.{position}
use Rattle.journal_states.specs.declared.spots.Phase.{Phase}
use Rattle.journal_states.specs.declared.spots.Phase.TheVariants as phase
use Rattle.journal_states.specs.declared.spots.Spot.{Spot}

-- what goes on in a place, by how far it has come, as a role sees it that handles this exception, or none
abbrev pub phase_in : Bool → Bool → Bool → Option ℕ → Phase
phase_in ended undoing started handled =
    if ended then phase.Ended
    else (if undoing then phase.Undoing
    else (if not started then phase.Arrived
    else (if is_some handled then phase.Handler else phase.Body)))

-- how far t has come in p
abbrev pub spot_in : Plan → List Entry → ℕ → ℕ → Spot
spot_in plan past p t = record {
  place = p;
  phase = phase_in (has_ended past p) (is_undoing past p) (has_started past p) (exception_handled past p t);
  handled = exception_handled past p t;
  step = position plan past p t;
}

-- how far t has come in this place, where there is one
abbrev pub spot_at : Plan → List Entry → ℕ → Option ℕ → Option Spot
spot_at plan past t None = None
spot_at plan past t (Some p) = Some (spot_in plan past p t)

-- where in its program t stands, if it is in a place
abbrev pub spot_of : Plan → List Entry → ℕ → Option Spot
spot_of plan past t = spot_at plan past t (inside plan past t)
