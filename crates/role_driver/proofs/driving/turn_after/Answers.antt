use Rattle.std.proofs.Common.{◌≡◌, ◌∙◌, None, Some, arith, length, of_z, subst, sym, to_z, w64}
use Rattle.std.proofs.lemmas.Bool.{false≢true}
use Rattle.std.proofs.lemmas.Int.{ints}
use Rattle.action_manager.specs.Managers.{plan_in}
use Rattle.action_manager.specs.OwnEntries.{entries_by}
use Rattle.action_manager.specs.Seats.{participant_of, seen_by}
use Rattle.place_plan.specs.RulesOfJournals.Machine.{AsksForWork}
use Rattle.role_driver.specs.Working.{AsksStill}
use Rattle.role_driver.proofs.Told.{asks_still, not_again, not_asking, step_told, work_told}
use Rattle.role_driver.proofs.driving.turn_after.Goals as goal

pub returns-in-Work : goal.returns-in-Work
returns-in-Work g c =
    let plan = plan_in c.args.manager.now in
    let who = participant_of c.args.seat.now in
    let old = seen_by c.args.seat.now in
    let new = seen_by c.step_and_tell.new.seat in
    let a = c.step_and_tell.result in
    let steps = c.step_and_tell.ensures.turn in
    let asked : AsksForWork plan old old who None c.in-Work.place c.in-Work.rounds c.in-Work.from =
    subst (AsksStill plan old who) c.in-Work.is c.requires.asked in
    let start : to_z w64 (of_z w64 c.in-Work.from) ≡ c.in-Work.from = omega (arith, ints) in
    let was_told = g.G.ToldGate.was_told c.args.gate.now in
    let made = subst (was_told c.participant.result c.in-Work.place) c.made.ensures c.mix-done.ensures.told in
    let told = subst (λ t. was_told t c.in-Work.place (length (entries_by who old))) c.participant.ensures made in
    record {
      opened = c.step_and_tell.ensures.opened;
      same = c.step_and_tell.ensures.same;
      turn = record {
        hint = Some c.mix-done.result;
        steps = steps;
        done = λ is. not_again plan old new who c.in-Work.place c.in-Work.rounds c.in-Work.from c.mix-done.result a asked
            c.mix-done.ensures.rounds (c.mix-done.ensures.from ∙ start) steps;
      };
      asks = asks_still plan old new who (Some c.mix-done.result) a steps;
      told = work_told was_told plan old new who c.in-Work.place c.in-Work.rounds c.in-Work.from
          (Some c.mix-done.result) a asked told steps;
      handed = c.step_and_tell.ensures.handed;
    }

pub returns-in_default : goal.returns-in_default
returns-in_default g c =
    let plan = plan_in c.args.manager.now in
    let who = participant_of c.args.seat.now in
    let old = seen_by c.args.seat.now in
    let new = seen_by c.step_and_tell-in_default.new.seat in
    let a = c.step_and_tell-in_default.result in
    let steps = c.step_and_tell-in_default.ensures.turn in
    record {
      opened = c.step_and_tell-in_default.ensures.opened;
      same = c.step_and_tell-in_default.ensures.same;
      turn = record {
        hint = None;
        steps = steps;
        done = λ is. absurd (false≢true (sym (not_asking c.args.asked c.in_default.not-Work) ∙ is));
      };
      asks = asks_still plan old new who None a steps;
      told = step_told (g.G.ToldGate.was_told c.args.gate.now) plan old new who a steps;
      handed = c.step_and_tell-in_default.ensures.handed;
    }
