use Rattle.std.proofs.Common.{◌≡◌, ◌∙◌, true, false, None, is_none, refl, sym, ap, subst}
use Rattle.std.proofs.lemmas.Bool.{false≢true}
use Rattle.place_plan.specs.Plans.PlanValue.{Plan}
use Rattle.journal_laws.proofs.Playable.{IsPlayable}
use Rattle.journal_laws.proofs.PlayablePlan.{is_playable}
use Rattle.journal_states.specs.Past.{plan_in, past_in}
use Rattle.journal_pictures.proofs.StretchLemmas.{may_arrive}
use Rattle.journal_pictures.proofs.stretches.doing_of.Goals as goal

pub returns-in-Some : goal.returns-in-Some
returns-in-Some c = record {
  waits = c.doing_inside.ensures.waits;
  away = c.doing_inside.ensures.here ∙ ap is_none (sym c.in-Some.is ∙ c.place_of.ensures c.requires);
}

pub returns-in-None : goal.returns-in-None
returns-in-None c =
    let s = c.args.states.now in
    let out = sym (c.place_of.ensures c.requires) ∙ c.in-None.is in
    let playable = subst IsPlayable c.plan.ensures (is_playable c.plan.result.now c.is_closed.ensures) in
    record {
      waits = (
        λ waits. absurd (false≢true waits),
        λ h. absurd (may_arrive (plan_in s) playable (past_in s) s.legal c.args.by out h),
      );
      away = sym (ap is_none out);
    }
