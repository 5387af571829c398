use Rattle.std.proofs.Common.{List, reverse, subst}
use Rattle.caa_base.specs.declared.written.entry.Entry.{Entry}
use Rattle.place_plan.specs.Plans.PlanValue.{Plan}
use Rattle.journal_replay.specs.PastParts.{plan_of}
use Rattle.journal_replay.specs.Moves.{IsMove}
use Rattle.told_machine.proofs.told.Told.move_of.Goals as goal

pub returns : goal.returns
returns g c =
    let told = c.args.self.now in
    let result = c.move_of.result in
    subst (λ (plan : Plan). IsMove plan (reverse told.journal.entries) c.args.by result) c.past.ensures.plan
    (subst (λ (past : List Entry). IsMove (plan_of c.past.result) past c.args.by result) c.past.ensures.entries c.move_of.ensures)
