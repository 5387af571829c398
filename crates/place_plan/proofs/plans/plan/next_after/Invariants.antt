use Rattle.std.proofs.Common.{◌≡◌, cond, drop}
use Rattle.caa_base.specs.Written.Lists.{next_after, first_of}
use Rattle.place_plan.proofs.plans.plan.next_after.Given as goal

abbrev pub invariant-loop-item : goal.invariant-loop-item
invariant-loop-item l =
    cond l.found (first_of (drop l.item-index l.list)) (next_after l.number (drop l.item-index l.list))
    ≡ next_after l.number l.list
