use Rattle.std.proofs.Common.{◌≡◌, ◌∙◌, arith, reverse, subst, sym, to_z, of_z, w64}
use Rattle.std.proofs.lemmas.Int.{ints}
use Rattle.place_plan.specs.RulesOfJournals.Rules.{MayFollow}
use Rattle.place_plan.specs.RulesOfJournals.Machine.{work_entry}
use Rattle.role_driver.proofs.turn.act.Goals as goal

-- the work that was asked for may be added
pub work-requires : goal.work-requires
work-requires g c =
    let plan = g.M.Machine.plan_of c.args.machine.now in
    let past = reverse (g.M.Machine.journal_of c.args.machine.now) in
    let mid = g.M.Machine.journal_of c.next.new.self in
    let done = c.mix_in_place-done.result in
    let asked = c.in-Work.ensures.answer in
    let entry = work_entry c.in-Work.place c.args.by in
    let start : to_z w64 (of_z w64 c.in-Work.from) ≡ c.in-Work.from = omega (arith, ints) in
    record {
      may =
          subst (λ p. MayFollow p (reverse mid) (entry done.rounds done.from)) (sym c.in-Work.ensures.plan)
          (subst (λ j. MayFollow plan (reverse j) (entry done.rounds done.from)) (sym asked.kept)
          (subst (λ r. MayFollow plan past (entry r done.from)) (sym c.mix_in_place-done.ensures.rounds)
          (subst (λ f. MayFollow plan past (entry c.in-Work.rounds f)) (sym (c.mix_in_place-done.ensures.from ∙ start)) asked.may)));
    }
