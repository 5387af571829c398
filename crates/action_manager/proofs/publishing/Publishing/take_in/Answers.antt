use Rattle.std.proofs.Common.{rules, true, ◌≡◌, ◌<◌, ◌∷◌, All, length, reverse, sym, ap, ◌∙◌, subst, arith}
use Rattle.place_plan.specs.Plans.PlanValue.{Plan}
use Rattle.place_plan.specs.Plans.Closed.{IsClosed}
use Rattle.place_plan.specs.RulesOfJournals.Journals.{LegalPast, ends_play}
use Rattle.place_plan.specs.RulesOfJournals.WellFormed.{AllWellFormed, IsWellFormed}
use Rattle.shared_views.specs.declared.committed_writer.PublishError.TheVariants.{Stale}
use Rattle.action_manager.specs.Publishing.{values_of, Publishes}
use Rattle.action_manager.proofs.PublishingKept.{values_known, an_end}
use Rattle.action_manager.proofs.publishing.Publishing.take_in.Goals as goal

pub collect-requires-clause-place : goal.collect-requires-clause-place
collect-requires-clause-place g c =
    let plan = g.M.Machine.plan_of c.args.machine.now in let past = reverse (g.M.Machine.journal_of c.args.machine.now) in
    let legal : LegalPast plan past = search rules in
    let all : AllWellFormed plan past =
    subst (λ (p : Plan). AllWellFormed p past) c.plan.ensures
    (c.is_well_formed.ensures past (subst (λ (p : Plan). LegalPast p past) (sym c.plan.ensures) legal)) in
    let fits : AllWellFormed plan (c.args.entry ∷ c.requires.last.0) = subst (AllWellFormed plan) c.requires.last.1 all in
    let first : IsWellFormed plan c.args.entry = fits 0 c.args.entry (omega arith) in
    first.place

pub publish-requires : goal.publish-requires
publish-requires g c =
    let plan = g.M.Machine.plan_of c.args.machine.now in let past = reverse (g.M.Machine.journal_of c.args.machine.now) in
    let closed : IsClosed plan = subst IsClosed c.plan-then-ends_play.ensures c.is_closed.ensures in
    let initials = c.collect.new.self.writer.initials in
    let changes = c.as_slice.ensures.value ∙ c.collect.ensures.changes in
    record {
      objects =
          subst (λ l. All (λ c. c.0 < length initials) l) (sym changes)
          (values_known plan closed past c.args.entry.place initials
          (ap (λ w. w.initials) c.collect.ensures.writer ∙ c.requires.initials));
    }

pub returns-then-ends_play-clause-publishes : goal.returns-then-ends_play-clause-publishes
returns-then-ends_play-clause-publishes g c = λ past is kept.
    let plan = g.M.Machine.plan_of c.args.machine.now in let entry = c.args.entry in
    let ends : ends_play plan entry ≡ true =
    sym (ap (λ (p : Plan). ends_play p entry) c.plan-2.ensures) ∙ (sym c.ends_play.ensures ∙ c.if-ends_play.true) in
    let changes = c.as_slice.ensures.value ∙ (c.collect.ensures.changes ∙ ap (λ l. values_of plan l entry.place) is) in
    let told = c.publish.ensures in
    an_end plan past entry c.collect.new.self.writer c.publish.new.self c.as_slice.result.now c.publish.result Stale
    ends changes told.initials told.published told.entered told.marked (λ late. told.stale.1 late) told.late
    (subst (Publishes plan past) (sym c.collect.ensures.writer) kept)
