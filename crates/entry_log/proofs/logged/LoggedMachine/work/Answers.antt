use Rattle.std.proofs.Common.{◌∙◌, ◌∷◌, [], ◌++◌, reverse, subst, sym}
use Rattle.std.proofs.Math.Logic.{∥∥₁_map}
use Rattle.std.proofs.lemmas.List.Elements.{All-head}
use Rattle.place_plan.specs.RulesOfJournals.Rules.{MayFollow}
use Rattle.place_plan.specs.RulesOfJournals.WellFormed.{IsWellFormed, AllWellFormed}
use Rattle.journal_laws.specs.Laws.{Holds}
use Rattle.entry_log.proofs.logged.LoggedMachine.work.Goals as goal

pub tell-requires : goal.tell-requires
tell-requires g c =
    let logged = c.args.self.now in
    let plan = g.M.Machine.plan_of logged.machine in
    let past = reverse (g.M.Machine.journal_of logged.machine) in
    let e = c.work-entry.result in
    let law = subst (Holds AllWellFormed) c.plan.ensures c.is_well_formed.ensures in
    let may = subst (MayFollow plan past) (sym c.work-entry.ensures.entry) c.requires.may in
    let formed = All-head (IsWellFormed plan) e past (law (e ∷ past) (g.met.M.Machine.legal logged.machine, may)) in
    record { formed = subst (λ p. IsWellFormed p e) (sym (c.plan-2.ensures ∙ c.work-entry.ensures.plan)) formed }

pub invariant_of-self : goal.invariant_of-self
invariant_of-self g c =
    let logged = c.args.self.now in
    let old = g.M.Machine.journal_of logged.machine in
    let e = c.work-entry.result in
    let same = c.plan-2.ensures ∙ c.work-entry.ensures.plan in
    record {
      told = ∥∥₁_map logged.told (λ told.
          subst (λ j. g.L.Log.tells c.tell.new.log (g.M.Machine.plan_of c.work-entry.new.self) j) (sym c.work-entry.ensures.journal)
          (subst (λ p. g.L.Log.tells c.tell.new.log p (old ++ e ∷ [])) c.plan-2.ensures
          (c.tell.ensures.grown old (subst (λ p. g.L.Log.tells logged.log p old) (sym same) told))));
    }
