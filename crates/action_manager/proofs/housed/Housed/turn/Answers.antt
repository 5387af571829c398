use Rattle.std.proofs.Common.{◌∙◌, sym, subst, None}
use Rattle.place_plan.specs.Plans.PlanValue.{Plan}
use Rattle.place_plan.specs.RulesOfJournals.Machine.{Answers}
use Rattle.action_manager.specs.inner.Asking.{AnswersAs}
use Rattle.action_manager.proofs.Answering.{ended_there, went_on}
use Rattle.action_manager.proofs.housed.Housed.turn.Goals as goal
use Rattle.action_manager.proofs.housed.Housed.turn.Goals.{else-asks_on-via-then-asks_on+else-is_work, else-asks_on-via-else-asks_on}

pub returns-then-is_work-clause-answer : goal.returns-then-is_work-clause-answer
returns-then-is_work-clause-answer g c =
    let journal_of = g.M.Machine.journal_of in
    let plan = g.M.Machine.plan_of c.args.self.now.machine in
    let old = journal_of c.args.self.now.machine in
    let mid = c.next-first.new.self.machine in
    let new = c.next.new.self.machine in
    let two = subst (λ (p : Plan). Answers p (journal_of mid) (journal_of new) c.args.by None c.next.result.0)
    c.next-first.ensures.plan c.next.ensures.answer in
    subst (λ on. AnswersAs on plan old (journal_of new) c.args.by c.args.hint c.next.result.0) (sym c.if-asks_on.true)
    (went_on plan old (journal_of mid) (journal_of new) c.args.by c.args.hint
    c.next-first.result.0 c.next.result.0 c.next-first.ensures.answer (sym c.is_work.ensures ∙ c.if-is_work.true) two)

pub returns-else-asks_on-clause-answer : goal.returns-else-asks_on-clause-answer
returns-else-asks_on-clause-answer g c =
    let journal_of = g.M.Machine.journal_of in
    let plan = g.M.Machine.plan_of c.args.self.now.machine in
    let old = journal_of c.args.self.now.machine in
    let new = journal_of c.next-first.new.self.machine in
    elim c.else-asks_on.branch [
      | else-asks_on-via-then-asks_on+else-is_work w ↦
          subst (λ on. AnswersAs on plan old new c.args.by c.args.hint c.next-first.result.0) (sym w.if-asks_on.true)
          (ended_there plan old new c.args.by c.args.hint c.next-first.result.0 c.next-first.ensures.answer
          (sym w.is_work.ensures ∙ w.if-is_work.false))
      | else-asks_on-via-else-asks_on w ↦
          subst (λ on. AnswersAs on plan old new c.args.by c.args.hint c.next-first.result.0) (sym w.if-asks_on.false)
          c.next-first.ensures.answer
    ]
