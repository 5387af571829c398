use Rattle.std.proofs.Common.{◌≡◌, ◌∙◌, arith, reverse, subst, sym, to_z, of_z, w64}
use Rattle.std.proofs.lemmas.Int.{ints}
use Rattle.place_plan.specs.RulesOfJournals.Rules.{MayFollow}
use Rattle.place_plan.specs.RulesOfJournals.Machine.{work_entry}
use Rattle.journal_replay.proofs.hall.PlayedMachine.work.Goals as goal

pub add-requires-clause-may : goal.add-requires-clause-may
add-requires-clause-may g c =
    let hall = c.args.self.now in
    let past = reverse hall.journal.entries in
    let done = c.args.done.now in
    let start : to_z w64 (of_z w64 c.from.result) ≡ c.from.result = omega (arith, ints) in
    subst (MayFollow hall.plan past) (sym c.mixed-entry.ensures)
    (subst (λ r. MayFollow hall.plan past (work_entry c.args.place c.args.by r (to_z w64 (of_z w64 c.from.result)))) (sym c.rounds.ensures)
    (subst (λ f. MayFollow hall.plan past (work_entry c.args.place c.args.by done.rounds f)) (sym (start ∙ c.from.ensures)) c.requires.may))
