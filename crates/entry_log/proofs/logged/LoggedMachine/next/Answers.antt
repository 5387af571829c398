use Rattle.std.proofs.Common.{◌∙◌, subst, sym}
use Rattle.std.proofs.Math.Logic.{∥∥₁_map}
use Rattle.place_plan.specs.RulesOfJournals.WellFormed.{AllWellFormed}
use Rattle.journal_laws.specs.Laws.{Holds}
use Rattle.entry_log.specs.Telling.{after_answer, MadeWell}
use Rattle.entry_log.proofs.MadeEntries.{made_well, grown_by}
use Rattle.entry_log.proofs.logged.LoggedMachine.next.Goals as goal

pub tell-requires : goal.tell-requires
tell-requires g c =
    let logged = c.args.self.now in
    let plan = g.M.Machine.plan_of logged.machine in
    let old = g.M.Machine.journal_of logged.machine in
    let new = g.M.Machine.journal_of c.next-answer.new.self in
    let law = subst (Holds AllWellFormed) c.plan.ensures c.is_well_formed.ensures in
    let made =
    made_well plan old new c.args.by c.args.hint c.next-answer.result law (g.met.M.Machine.legal logged.machine)
    c.next-answer.ensures.answer in
    record { formed = subst (λ p. MadeWell p c.next-answer.result) (sym (c.plan-2.ensures ∙ c.next-answer.ensures.plan)) made }

pub invariant_of-self : goal.invariant_of-self
invariant_of-self g c =
    let logged = c.args.self.now in
    let plan = g.M.Machine.plan_of logged.machine in
    let old = g.M.Machine.journal_of logged.machine in
    let new = g.M.Machine.journal_of c.next-answer.new.self in
    let same = c.plan-2.ensures ∙ c.next-answer.ensures.plan in
    let grown = grown_by plan old new c.args.by c.args.hint c.next-answer.result c.next-answer.ensures.answer in
    record {
      told = ∥∥₁_map logged.told (λ told.
          subst (λ j. g.L.Log.tells c.tell.new.log (g.M.Machine.plan_of c.next-answer.new.self) j) grown
          (subst (λ p. g.L.Log.tells c.tell.new.log p (after_answer c.next-answer.result old)) c.plan-2.ensures
          (c.tell.ensures.grown old (subst (λ p. g.L.Log.tells logged.log p old) (sym same) told))));
    }
