use Rattle.std.proofs.Common.{rules, ◌<◌, ◌^◌, ℕ, ◌∙◌, ◌≡◌, ap, sym, subst, arith, length, reverse}
use Rattle.action_manager.specs.OwnEntries.{Journal, Grows, entries_by}
use Rattle.place_plan.specs.Plans.PlanValue.{Plan}
use Rattle.place_plan.specs.RulesOfJournals.Journals.{LegalPast}
use Rattle.action_manager.specs.Stepping.{GrowsWithout}
use Rattle.action_manager.specs.inner.Asking.{AnswersAs, StepsAs}
use Rattle.action_manager.proofs.Answering.{few_own, turn_grows, turn_lengthens, turn_makes, turn_steps}
use Rattle.action_manager.proofs.manager.Manager.turn.Goals as goal

pub hand_on-requires-clause-grown : goal.hand_on-requires-clause-grown
hand_on-requires-clause-grown g c =
    let was = g.M.Machine.journal_of c.begin-ticket.result.1.machine in let now = g.M.Machine.journal_of c.turn-answer.new.self.machine in
    let view = c.begin-ticket.ensures.view in
    let who = c.args.seat.now.who ∙ sym (ap (λ m. m.0.who) view) in
    let book = sym (ap (λ m. m.0.book) view) in
    subst (λ (x : ℕ × Journal). Grows x.0 x.1 now) (λ i. (who i, book i))
    (turn_grows c.args.asks_on _ was now _ _ c.turn-answer.result.0 c.turn-answer.ensures.answer)

pub overflow_sub-seat : goal.overflow_sub-seat
overflow_sub-seat g c =
    let was = g.M.Machine.journal_of c.begin-ticket.result.1.machine in let now = g.M.Machine.journal_of c.turn-answer.new.self.machine in
    let longer = turn_lengthens c.args.asks_on _ was now _ _ c.turn-answer.result.0 c.turn-answer.ensures.answer in
    omega (arith, longer)

pub overflow_add-seat : goal.overflow_add-seat
overflow_add-seat g c =
    let was = g.M.Machine.journal_of c.begin-ticket.result.1.machine in let now = g.M.Machine.journal_of c.turn-answer.new.self.machine in
    let seat = c.args.seat.now in let who = seat.participant in let seen = seat.token.me.0.seen in
    let grown : GrowsWithout seen was who = subst (λ t. GrowsWithout seen was t) (sym seat.who) c.begin-ticket.ensures.grown in
    let made = turn_makes c.args.asks_on _ was now seen who seat.made _ c.turn-answer.result.0 c.turn-answer.ensures.answer grown seat.so_many in
    let longer = turn_lengthens c.args.asks_on _ was now _ _ c.turn-answer.result.0 c.turn-answer.ensures.answer in
    let few = few_own who now in
    let small : length now < 2 ^ 64 = search rules in
    omega (arith, made, longer, few, small)

pub invariant_of-seat-clause-so_many : goal.invariant_of-seat-clause-so_many
invariant_of-seat-clause-so_many g c =
    let was = g.M.Machine.journal_of c.begin-ticket.result.1.machine in let now = g.M.Machine.journal_of c.turn-answer.new.self.machine in
    let seat = c.args.seat.now in let who = seat.participant in let seen = seat.token.me.0.seen in
    let grown : GrowsWithout seen was who = subst (λ t. GrowsWithout seen was t) (sym seat.who) c.begin-ticket.ensures.grown in
    let made = turn_makes c.args.asks_on _ was now seen who seat.made _ c.turn-answer.result.0 c.turn-answer.ensures.answer grown seat.so_many in
    let longer = turn_lengthens c.args.asks_on _ was now _ _ c.turn-answer.result.0 c.turn-answer.ensures.answer in
    let saw = ap (λ m. length (entries_by who m.0.seen)) c.hand_on.ensures.view in
    omega (arith, made, longer, saw)

pub returns-clause-turn : goal.returns-clause-turn
returns-clause-turn g c =
    let home = c.begin-ticket.result.1.machine in let left = c.turn-answer.new.self.machine in
    let was = g.M.Machine.journal_of home in let now = g.M.Machine.journal_of left in
    let plan = c.args.self.now.lock.table.shared.key.plan.value in
    let seat = c.args.seat.now in let who = seat.participant in let seen = seat.token.me.0.seen in
    let of_plan : g.M.Machine.plan_of home ≡ plan = c.begin-ticket.ensures.right.plan in
    let grown : GrowsWithout seen was who = subst (λ t. GrowsWithout seen was t) (sym seat.who) c.begin-ticket.ensures.grown in
    let legal_was : LegalPast (g.M.Machine.plan_of home) (reverse was) = g.met.M.Machine.legal home in
    let legal_now : LegalPast (g.M.Machine.plan_of left) (reverse now) = g.met.M.Machine.legal left in
    let on = c.args.asks_on in
    let steps = turn_steps on plan seen was now who c.args.hint c.turn-answer.result.0 grown
    (subst (λ (p : Plan). LegalPast p (reverse was)) of_plan legal_was)
    (subst (λ (p : Plan). LegalPast p (reverse now)) (c.turn-answer.ensures.plan ∙ of_plan) legal_now)
    (subst (λ (p : Plan). AnswersAs on p was now who c.args.hint c.turn-answer.result.0) of_plan c.turn-answer.ensures.answer) in
    let saw = ap (λ m. m.0.seen) c.hand_on.ensures.view in
    subst (λ j. StepsAs on plan seen j who c.args.hint c.turn-answer.result.0) (sym saw) steps

pub returns-clause-legal : goal.returns-clause-legal
returns-clause-legal g c =
    let left = c.turn-answer.new.self.machine in let now = g.M.Machine.journal_of left in
    let plan = c.args.self.now.lock.table.shared.key.plan.value in
    let of_plan : g.M.Machine.plan_of left ≡ plan = c.turn-answer.ensures.plan ∙ c.begin-ticket.ensures.right.plan in
    let legal_now : LegalPast (g.M.Machine.plan_of left) (reverse now) = g.met.M.Machine.legal left in
    let saw = ap (λ m. m.0.seen) c.hand_on.ensures.view in
    subst (λ j. LegalPast plan (reverse j)) (sym saw) (subst (λ (p : Plan). LegalPast p (reverse now)) of_plan legal_now)
