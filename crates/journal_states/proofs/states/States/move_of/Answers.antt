use Rattle.std.proofs.Common.{List, subst}
use Rattle.caa_base.specs.declared.written.entry.Entry.{Entry}
use Rattle.place_plan.specs.Plans.PlanValue.{Plan}
use Rattle.journal_replay.specs.PastParts.{plan_of}
use Rattle.journal_replay.specs.Moves.{IsMove}
use Rattle.journal_states.specs.Past.{past_in}
use Rattle.journal_states.proofs.states.States.move_of.Goals as goal

pub returns : goal.returns
returns c = λ _.
    let s = c.args.self.now in
    let result = c.move_of.result in
    subst (λ (plan : Plan). IsMove plan (past_in s) c.args.by result) c.past.ensures.plan
    (subst (λ (past : List Entry). IsMove (plan_of c.past.result) past c.args.by result) c.past.ensures.entries c.move_of.ensures)
