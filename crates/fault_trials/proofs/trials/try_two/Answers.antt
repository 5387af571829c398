use Rattle.std.proofs.Common.{◌∙◌, refl}
use Rattle.fault_trials.proofs.Lines.{grown_none, grown_grown}
use Rattle.fault_trials.proofs.trials.try_two.Goals as goal

pub loop-index-init : goal.loop-index-init
loop-index-init c = record { plan = refl; grown = grown_none c.args.findings.now.lines.items }

pub loop-index-preserved : goal.loop-index-preserved
loop-index-preserved c = record {
  plan = c.in_ok-plan.ensures.plan ∙ c.loop-index.invariant.plan;
  grown = grown_grown _ _ _ c.loop-index.invariant.grown c.in_ok-plan.ensures.grown;
}
