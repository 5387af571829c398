use Rattle.std.proofs.Common.{sym, subst}
use Rattle.script_checker.specs.PlanSizes.{HasCounts}
use Rattle.script_checker.proofs.Unbroken.{plan_counted}
use Rattle.script_checker.proofs.compile.count.Goals as goal

pub returns-clause-counts : goal.returns-clause-counts
returns-clause-counts c =
    subst (λ counts. HasCounts c.args.script.now counts) (sym c.counts_so_far.ensures)
    (plan_counted c.args.script.now c.in_ok-declared.declared c.in_ok-declared.field-0-1.items c.in_ok-declared.ensures.declared
    c.are_script.ensures)
