use Rattle.std.proofs.Common.{◌≡◌}
use Rattle.fault_trials.specs.Tables.{Grown}
use Rattle.fault_trials.proofs.trials.try_two.Given as goal

abbrev pub invariant-loop-index : goal.invariant-loop-index
invariant-loop-index l = record {
  plan : l.plan ≡ l.initial.plan;
  grown : Grown l.initial.findings.lines.items l.findings.lines.items;
}
