use Rattle.std.proofs.Common.{◌&&◌, ℕ, sym, ◌∙◌, length, arith}
use Rattle.std.proofs.lemmas.Bool.{and_from}
use Rattle.reach_tables.specs.ReachTable.{leads_to, leads_from}
use Rattle.reach_tables.proofs.EnteredSteps.{range_some, range_none}
use Rattle.reach_tables.proofs.order.leads_through.Goals as goal

pub returns-then-leads_from : goal.returns-then-leads_from
returns-then-leads_from c =
    let action = c.args.action.now in
    let order = c.args.order.now in
    let nest = c.loop-nest.nest in
    let test = c.loop-nest-test.true in
    let count = c.len-nest-end.ensures in
    sym (range_some
    (λ (k : ℕ). leads_to action order c.args.role c.args.index k && leads_from action order k c.args.other c.args.later) 0
    (length action.nests) nest (omega arith) (omega arith)
    (and_from _ _ (sym c.leads_to.ensures ∙ c.if-leads_to.true) (sym c.leads_from.ensures ∙ c.if-leads_from.true)))

pub returns : goal.returns
returns c =
    let action = c.args.action.now in
    let order = c.args.order.now in
    let test = c.loop-nest-test.false in
    let count = c.len-nest-end.ensures in
    sym (range_none
    (λ (k : ℕ). leads_to action order c.args.role c.args.index k && leads_from action order k c.args.other c.args.later) 0
    (length action.nests) (λ k l m. c.loop-nest.invariant k (omega arith)))
