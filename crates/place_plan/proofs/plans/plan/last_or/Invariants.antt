use Rattle.std.proofs.Common.{◌≡◌, drop}
use Rattle.caa_base.specs.Written.Lists.{last_or}
use Rattle.place_plan.proofs.plans.plan.last_or.Given as goal

abbrev pub invariant-loop-item : goal.invariant-loop-item
invariant-loop-item l = last_or l.last (drop l.item-index l.list) ≡ last_or l.number l.list
