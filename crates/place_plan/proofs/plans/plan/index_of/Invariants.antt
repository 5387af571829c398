use Rattle.std.proofs.Common.{◌≡◌, ◌+◌, drop}
use Rattle.caa_base.specs.Written.Lists.{index_of}
use Rattle.place_plan.proofs.plans.plan.index_of.Given as goal

abbrev pub invariant-loop-index : goal.invariant-loop-index
invariant-loop-index l = l.index + index_of l.number (drop l.index l.list) ≡ index_of l.number l.list
