use Rattle.std.proofs.Common.{◌∙◌}
use Rattle.fault_trials.proofs.Lines.{tabled}
use Rattle.fault_trials.proofs.trials.try_faults.Goals as goal

pub returns-clause-tabled : goal.returns-clause-tabled
returns-clause-tabled g c =
    tabled c.args.plan c.in_ok-played.played.plan c.args.question c.in_ok-played.played.measure c.refuse_bases.new.findings.lines.items
    c.in_ok-played.played.bases.items c.deref-2.result.now (c.in_ok-played.ensures.plan ∙ c.in_ok-found.ensures) c.deref-2.ensures.value
    c.in_ok-played.ensures.all c.in_ok-played.ensures.whole (c.in_ok-played.ensures.off ∙ c.new-measure.ensures.off)
    (c.in_ok-played.ensures.counted ∙ c.new-measure.ensures.counted) c.in_ok-played.ensures.measured c.in_ok-after.ensures.tried
