-- How a seat comes back from its thread.
use Rattle.std.proofs.Common.{◌≡◌, true, reverse, inl, sym, ap, subst}
use Rattle.place_plan.specs.Plans.PlanValue.{Plan}
use Rattle.place_plan.specs.declared.rules.machine.Base.{Base}
use Rattle.place_plan.specs.RulesOfJournals.Roles.{is_over}
use Rattle.action_manager.specs.Managers.{plan_in, IsSeatIn}
use Rattle.action_manager.specs.Seats.{participant_of, seen_by}
use Rattle.action_manager.specs.declared.manager.Manager.{Manager}
use Rattle.action_manager.specs.declared.seat.Seat.{Seat}
use Rattle.role_driver.specs.inner.Crew.{plan_at, IsBack}

-- a seat that was driven to its end
pub driven_back : {M : Type 0} (base_of : M → Base) (manager : Manager M) (before after : Seat M) (was_seen : Type 0)
    → IsSeatIn base_of manager before → is_over (plan_in manager) (reverse (seen_by after)) (participant_of before) ≡ true
    → IsBack was_seen before after
driven_back base_of manager before after was_seen opened over =
    let plan : plan_at before ≡ plan_in manager = ap (λ m. m.0.terms.plan) opened.rests in
    inl (subst (λ (p : Plan). is_over p (reverse (seen_by after)) (participant_of before) ≡ true) (sym plan) over)
