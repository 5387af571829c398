use Rattle.std.proofs.Common.{◌≡◌, ◌++◌, take, drop}
use Rattle.reach_laws.specs.ReachedSteps.{reached}
use Rattle.reach_tables.proofs.steps.reached.Given as goal

abbrev pub invariant-loop-index : goal.invariant-loop-index
invariant-loop-index l = take l.index l.steps ++ reached (drop l.index l.steps) ≡ reached l.steps
