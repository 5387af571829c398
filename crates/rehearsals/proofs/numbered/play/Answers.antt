use Rattle.std.proofs.Common.{◌≡◌, ◌∙◌, sym, ap, subst, subst₂, IfSome}
use Rattle.std.specs.Prelude.{◌+◌}
use Rattle.journal_replay.specs.Device.{HasDrills}
use Rattle.place_plan.specs.RulesOfJournals.Journals.{IsLegal, IsComplete, faults_in}
use Rattle.place_plan.specs.declared.rules.machine.Base.{Base}
use Rattle.rehearsals.proofs.Reversed.{all_well_formed}
use Rattle.rehearsals.proofs.numbered.play.Goals as goal

pub returns-clause-plan : goal.returns-clause-plan
returns-clause-plan g c = c.into_parts-plan.ensures.plan ∙ c.play_by.ensures.plan ∙ c.in-Ok.ensures.plan

pub returns-clause-legal : goal.returns-clause-legal
returns-clause-legal g c =
    subst (λ p. IsLegal p c.into_parts-plan.result.2.entries) (c.into_parts-plan.ensures.plan ∙ c.play_by.ensures.plan ∙ c.in-Ok.ensures.plan)
    c.into_parts-plan.ensures.legal

pub returns-clause-complete : goal.returns-clause-complete
returns-clause-complete g c = subst₂ IsComplete c.in-Ok.ensures.plan (sym c.into_parts-plan.ensures.journal) c.play_by.ensures.complete

pub returns-clause-entries : goal.returns-clause-entries
returns-clause-entries g c =
    all_well_formed c.args.plan _ c.into_parts-plan.result.2.entries
    (c.into_parts-plan.ensures.plan ∙ c.play_by.ensures.plan ∙ c.in-Ok.ensures.plan) c.into_parts-plan.ensures.legal c.is_well_formed.ensures

pub returns-clause-faults : goal.returns-clause-faults
returns-clause-faults g c =
    λ l. c.into_parts-plan.ensures.faults l
    ∙ ap (λ b. b + faults_in c.into_parts-plan.result.2.entries) (ap (λ (b : Base). b.faults) c.play_by.ensures.base ∙ c.in-Ok.ensures.base)

pub returns-clause-drilling : goal.returns-clause-drilling
returns-clause-drilling g c =
    subst (λ p. IfSome (g.P.Plant.drilling c.into_parts-plan.result.1) (HasDrills p c.into_parts-plan.result.2.entries))
    (c.into_parts-plan.ensures.plan ∙ c.play_by.ensures.plan ∙ c.in-Ok.ensures.plan) c.into_parts-plan.ensures.drilling
