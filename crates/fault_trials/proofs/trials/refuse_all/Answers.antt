use Rattle.std.proofs.Common.{◌≡◌, ◌∙◌, refl, ap, subst, length, arith}
use Rattle.fault_trials.specs.Tables.{TriesAt}
use Rattle.fault_trials.proofs.Lines.{grown_none, grown_grown, puts_more, all_tried}
use Rattle.fault_trials.proofs.trials.refuse_all.Goals as goal

pub loop-index-init : goal.loop-index-init
loop-index-init c = record { plan = refl; grown = grown_none c.args.findings.now.lines.items; tried = λ k low. absurd (omega arith) }

pub loop-index-preserved : goal.loop-index-preserved
loop-index-preserved c = record {
  plan = c.in_ok-plan.ensures.plan ∙ c.loop-index.invariant.plan;
  grown = grown_grown _ _ _ c.loop-index.invariant.grown c.in_ok-plan.ensures.grown;
  tried = puts_more c.args.plan c.args.bench.now.measure c.loop-index.findings.lines.items c.refuse_at.new.findings.lines.items
      c.args.base.now.journal.entries c.loop-index.index c.in_ok-plan.ensures.grown c.loop-index.invariant.tried
      (subst (λ plan. TriesAt plan c.args.bench.now.measure c.refuse_at.new.findings.lines.items c.args.base.now.journal.entries
      c.loop-index.index) c.loop-index.invariant.plan c.in_ok-plan.ensures.tried);
}

pub returns-clause-tried : goal.returns-clause-tried
returns-clause-tried c =
    let same : length c.as_slice-index-end.result.now ≡ length c.args.base.now.journal.entries = ap length c.as_slice-index-end.ensures in
    all_tried c.args.plan c.args.bench.now.measure c.loop-index.findings.lines.items c.args.base.now.journal.entries
    (λ k low. c.loop-index.invariant.tried k (omega (arith, same)))
