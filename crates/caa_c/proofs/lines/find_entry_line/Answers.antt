use Rattle.std.proofs.Common.{refl, subst, sym, arith, ◌<◌, length}
use Rattle.place_plan.specs.Plans.PlanValue.{Plan}
use Rattle.place_plan.specs.RulesOfJournals.WellFormed.{IsWellFormed, AllWellFormed}
use Rattle.journal_laws.specs.Laws.{Holds}
use Rattle.caa_c.proofs.Reversed.{all_well_formed}
use Rattle.caa_c.proofs.lines.find_entry_line.Goals as goal

pub push_entry-requires : goal.push_entry-requires
push_entry-requires c =
    let plan = c.args.session.now.told.plan in
    let entries = c.journal-journal.result.now.entries in
    let law = subst (Holds AllWellFormed) c.plan.ensures c.is_well_formed.ensures in
    let all : AllWellFormed plan entries = all_well_formed plan plan entries refl c.journal-journal.ensures.legal law in
    let below : c.args.number < length entries = omega (arith, c.if-number-len.false, c.len.ensures) in
    subst (λ (p : Plan). IsWellFormed p c.get-entry.result) (sym c.plan-2.ensures)
    (subst (IsWellFormed plan) (sym c.get-entry.ensures) (all c.args.number c.get-entry.result below))
