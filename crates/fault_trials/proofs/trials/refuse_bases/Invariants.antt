use Rattle.std.proofs.Common.{◌≡◌, ℕ, ◌<◌, get_or}
use Rattle.fault_trials.specs.Tables.{AllTried}
use Rattle.fault_trials.specs.declared.trials.Base.{Base}
use Rattle.fault_trials.proofs.trials.refuse_bases.Given as goal

abbrev pub invariant-loop-index : goal.invariant-loop-index
invariant-loop-index g l = record {
  plan : l.plan ≡ l.initial.plan;
  tried : (k : ℕ) (d : Base) → k < l.index
      → AllTried l.initial.plan l.bench.measure l.findings.lines.items (get_or l.bases k d).journal.entries;
}
