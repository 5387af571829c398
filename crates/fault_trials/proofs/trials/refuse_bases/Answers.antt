use Rattle.std.proofs.Common.{◌∙◌}
use Rattle.fault_trials.proofs.Lines.{bases_more}
use Rattle.fault_trials.proofs.trials.refuse_bases.Goals as goal

pub loop-index-preserved : goal.loop-index-preserved
loop-index-preserved g c = record {
  plan = c.in_ok-plan.ensures.plan ∙ c.loop-index.invariant.plan;
  tried = bases_more c.args.plan c.loop-index.plan c.args.bench.now.measure c.loop-index.findings.lines.items
      c.refuse_all.new.findings.lines.items c.args.bases.now c.loop-index.index c.index-bases-index.result c.loop-index.invariant.plan
      c.loop-index-test.true c.index-bases-index.is c.in_ok-plan.ensures.grown c.loop-index.invariant.tried c.in_ok-plan.ensures.tried;
}
