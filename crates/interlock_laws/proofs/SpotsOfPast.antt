-- What the spots of a legal past say, gathered from what was shown of places that are resolved and of those that aren't.
use Rattle.std.proofs.Common.{◌≡◌, ℕ, Bool, true, false, not, cond, List, Some, None, suc, refl, ap}
use Rattle.std.proofs.lemmas.Bool.{and_from, and_left, and_right, not_from_false, not_from_true}
use Rattle.caa_base.specs.declared.written.entry.Entry.{Entry}
use Rattle.place_plan.specs.Plans.PlanValue.{Plan}
use Rattle.place_plan.specs.Plans.Places.{parent}
use Rattle.place_plan.specs.RulesOfJournals.Whereabouts.{stays, has_ended, is_left_in_silence}
use Rattle.place_plan.specs.RulesOfJournals.Raising.{exception_resolved}
use Rattle.place_plan.specs.RulesOfJournals.Roles.{position}
use Rattle.place_plan.specs.RulesOfJournals.Journals.{LegalPast}
use Rattle.journal_laws.specs.Laws.{Holds}
use Rattle.journal_laws.proofs.Playable.{IsPlayable}
use Rattle.journal_laws.proofs.Core.{Core}
use Rattle.interlock_laws.specs.Spots.{spot_of, behind}
use Rattle.interlock_laws.specs.SpotLaws.{SpotIsPosition}
use Rattle.interlock_laws.proofs.HandlerSpots.{resolved_spot}
use Rattle.interlock_laws.proofs.BodySpots.{inside_back, calm_spot, standing}

module _ (plan : Plan) (playable : IsPlayable plan) (core : Holds Core plan) where
  back_behind : (past : List Entry) → LegalPast plan past → (p c t : ℕ) → exception_resolved past p ≡ None → parent plan c ≡ Some p
      → stays past c t ≡ true → has_ended past c ≡ true → (b : Bool) → is_left_in_silence plan past c ≡ b
      → behind (spot_of plan past p t) ≡ cond b (position plan past p t) (suc (position plan past p t))
  back_behind past legal p c t none up s ended true w =
      let found =
      (standing plan playable core past legal p t none).further c up s
      (and_right (has_ended past c) (not (is_left_in_silence plan past c)) (not_from_true _ w)) in
      ap behind found.1
  back_behind past legal p c t none up s ended false w =
      ((standing plan playable core past legal p t none).aloud c up s
      (and_from (has_ended past c) (not (is_left_in_silence plan past c)) ended (not_from_false _ w))).0

  pub spot_is_position : Holds SpotIsPosition plan
  spot_is_position past legal = record {
    steps = λ p t at.
        (standing plan playable core past legal p t at.unresolved).back (inside_back plan playable core past legal p t at.here);
    raised = λ p t at d.
        (standing plan playable core past legal p t at.unresolved).raised (inside_back plan playable core past legal p t at.here) d;
    calm = λ p t at d r.
        calm_spot plan playable core past legal p t (standing plan playable core past legal p t at.unresolved) at.unresolved at.here r d;
    further = λ p c t none up s f.
        (standing plan playable core past legal p t none).further c up s
        (and_left (has_ended past c) (not (is_left_in_silence plan past c)) f);
    back = λ p c t none up s ended. back_behind past legal p c t none up s ended (is_left_in_silence plan past c) refl;
    resolved = resolved_spot plan playable core past legal;
  }
