use Rattle.std.proofs.Common.{◌≡◌, ℕ, ◌<◌}
use Rattle.fault_trials.specs.Tables.{Grown, TriesAt}
use Rattle.fault_trials.proofs.trials.refuse_all.Given as goal

abbrev pub invariant-loop-index : goal.invariant-loop-index
invariant-loop-index l = record {
  plan : l.plan ≡ l.initial.plan;
  grown : Grown l.initial.findings.lines.items l.findings.lines.items;
  tried : (k : ℕ) → k < l.index → TriesAt l.initial.plan l.bench.measure l.findings.lines.items l.base.journal.entries k;
}
