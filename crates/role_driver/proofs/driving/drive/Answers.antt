use Rattle.std.proofs.Common.{◌≡◌, rules, true, reverse, ◌∙◌, subst, sym}
use Rattle.place_plan.specs.RulesOfJournals.Roles.{is_over}
use Rattle.action_manager.specs.Seats.{participant_of, seen_by}
use Rattle.action_manager.specs.Stepping.{Looks}
use Rattle.action_manager.specs.Managers.{plan_in}
use Rattle.role_driver.specs.Handling.{TellsOwnHandlers}
use Rattle.role_driver.specs.Working.{AsksStill, IsToldOf, TellsOwnWork}
use Rattle.role_driver.proofs.Handed.{handed_further, others_handed}
use Rattle.role_driver.proofs.Told.{goes_further, others_go_on, over_seen}
use Rattle.role_driver.proofs.driving.drive.Goals as goal

pub turn_after-answer-requires-clause-asked : goal.turn_after-answer-requires-clause-asked
turn_after-answer-requires-clause-asked g c =
    let inv = c.loop.invariant in
    subst (λ t. AsksStill (plan_in c.args.manager.now) (seen_by c.loop.seat) t c.loop.answer) (sym inv.same) inv.asks

pub loop-preserved : goal.loop-preserved
loop-preserved g c =
    let inv = c.loop.invariant in
    let was_told = g.G.ToldGate.was_told c.args.gate.now in
    let who = participant_of c.args.seat in
    let old = seen_by c.args.seat in
    let here = seen_by c.loop.seat in
    let mid = seen_by c.turn_after-answer.new.seat in
    let new = seen_by c.wait_past.new.seat in
    let own = c.turn_after-answer.ensures.same ∙ inv.same in
    let turn = subst (λ t. TellsOwnWork was_told t here mid) inv.same c.turn_after-answer.ensures.told in
    let was_handed = g.G.ToldGate.was_handed c.args.gate.now in
    let handlers = subst (λ t. TellsOwnHandlers was_handed t here mid) inv.same c.turn_after-answer.ensures.handed in
    let looks = subst (λ t. Looks (plan_in c.args.manager.now) mid new t) own c.wait_past.ensures.turn in
    let told =
    goes_further (IsToldOf was_told who) old mid new
    (goes_further (IsToldOf was_told who) old here mid inv.told turn) (others_go_on was_told mid new who looks.grown) in
    let handed =
    handed_further was_handed who old mid new
    (handed_further was_handed who old here mid inv.handed handlers) (others_handed was_handed who mid new looks.grown) in
    record {
      opened = c.wait_past.ensures.opened;
      same = c.wait_past.ensures.same.0 ∙ own;
      seen = (told.more, told.goes_on);
      told = told;
      handed = handed;
      asks = subst (AsksStill (plan_in c.args.manager.now) new who) (sym c.in-NotYet.is) tt;
      goes = search rules;
    }

pub loop-preserved-in-Did : goal.loop-preserved-in-Did
loop-preserved-in-Did g c =
    let inv = c.loop.invariant in
    let was_told = g.G.ToldGate.was_told c.args.gate.now in
    let was_handed = g.G.ToldGate.was_handed c.args.gate.now in
    let who = participant_of c.args.seat in
    let old = seen_by c.args.seat in
    let here = seen_by c.loop.seat in
    let mid = seen_by c.turn_after-answer.new.seat in
    let turn = subst (λ t. TellsOwnWork was_told t here mid) inv.same c.turn_after-answer.ensures.told in
    let handlers = subst (λ t. TellsOwnHandlers was_handed t here mid) inv.same c.turn_after-answer.ensures.handed in
    let told = goes_further (IsToldOf was_told who) old here mid inv.told turn in
    record {
      opened = c.turn_after-answer.ensures.opened;
      same = c.turn_after-answer.ensures.same ∙ inv.same;
      seen = (told.more, told.goes_on);
      told = told;
      handed = handed_further was_handed who old here mid inv.handed handlers;
      asks = subst (λ t. AsksStill (plan_in c.args.manager.now) mid t c.turn_after-answer.result) inv.same c.turn_after-answer.ensures.asks;
      goes = search rules;
    }

pub returns-in-Over-clause-told : goal.returns-in-Over-clause-told
returns-in-Over-clause-told g c =
    let inv = c.loop.invariant in
    let was_told = g.G.ToldGate.was_told c.args.gate.now in
    let here = seen_by c.loop.seat in
    let mid = seen_by c.turn_after-answer.new.seat in
    let turn = subst (λ t. TellsOwnWork was_told t here mid) inv.same c.turn_after-answer.ensures.told in
    goes_further (IsToldOf was_told (participant_of c.args.seat)) (seen_by c.args.seat) here mid inv.told turn

pub returns-in-Over-clause-handed : goal.returns-in-Over-clause-handed
returns-in-Over-clause-handed g c =
    let inv = c.loop.invariant in
    let was_handed = g.G.ToldGate.was_handed c.args.gate.now in
    let here = seen_by c.loop.seat in
    let mid = seen_by c.turn_after-answer.new.seat in
    let handlers = subst (λ t. TellsOwnHandlers was_handed t here mid) inv.same c.turn_after-answer.ensures.handed in
    handed_further was_handed (participant_of c.args.seat) (seen_by c.args.seat) here mid inv.handed handlers

pub returns-in-Over-clause-over : goal.returns-in-Over-clause-over
returns-in-Over-clause-over g c =
    let turn = c.turn_after-answer.ensures.turn in
    let plan = plan_in c.args.manager.now in
    let here = seen_by c.loop.seat in
    let mid = seen_by c.turn_after-answer.new.seat in
    subst (λ t. is_over plan (reverse mid) t ≡ true) c.loop.invariant.same
    (over_seen plan here mid (participant_of c.loop.seat) turn.hint c.turn_after-answer.result c.in-Over.is turn.steps)
