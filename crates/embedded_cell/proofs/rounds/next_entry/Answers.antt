use Rattle.std.proofs.Common.{subst, sym, ◌∙◌}
use Rattle.place_plan.specs.RulesOfJournals.WellFormed.{AllWellFormed}
use Rattle.journal_laws.specs.Laws.{Holds}
use Rattle.embedded_cell.proofs.MadeEntries.{made_well}
use Rattle.embedded_cell.proofs.rounds.next_entry.Goals as goal

pub returns-in-Did-clause-formed : goal.returns-in-Did-clause-formed
returns-in-Did-clause-formed g c =
    let after = c.next.new.self in
    let law = subst (Holds AllWellFormed) (c.plan.ensures ∙ sym c.next.ensures.plan) c.is_well_formed.ensures in
    made_well (g.M.Machine.plan_of after) (g.M.Machine.journal_of c.args.machine.now) (g.M.Machine.journal_of after)
    c.in-Did.entry law (g.met.M.Machine.legal after) c.in-Did.ensures.answer.added

pub returns-in-Work-clause-formed : goal.returns-in-Work-clause-formed
returns-in-Work-clause-formed g c =
    let after = c.work-in-Work.new.self in
    let same = c.work-in-Work.ensures.plan ∙ c.next.ensures.plan in
    let law = subst (Holds AllWellFormed) (c.plan.ensures ∙ sym same) c.is_well_formed.ensures in
    made_well (g.M.Machine.plan_of after) (g.M.Machine.journal_of c.next.new.self) (g.M.Machine.journal_of after)
    c.work-in-Work.result law (g.met.M.Machine.legal after) c.work-in-Work.ensures.journal
