use Rattle.std.proofs.Common.{◌∙◌, refl, subst₂}
use Rattle.fault_trials.specs.Puts.{RefusedAt}
use Rattle.fault_trials.proofs.Lines.{once_tried}
use Rattle.fault_trials.proofs.trials.try_once.Goals as goal

pub returns-clause-tried : goal.returns-clause-tried
returns-clause-tried c =
    once_tried c.args.plan c.in_ok-played.played.plan c.args.bench.now.measure _ c.note.new.findings.lines.items
    c.args.base.now.journal.entries c.in_ok-played.played.journal.entries c.args.put.now.index c.args.put.now.entry
    c.alone-way.result.spot c.alone-way.result.mode c.alone-way.result.told.place c.in_ok-played.ensures.plan
    c.in_ok-played.ensures.legal c.in_ok-played.ensures.complete
    (subst₂ (λ base tried. RefusedAt base tried c.args.put.now.index c.args.put.now.entry) c.as_slice.ensures c.as_slice-2.ensures
    (c.if-not-refuses.ensures refl)) c.in_ok-played.ensures.few
    (c.alone-way.ensures.spot ∙ c.requires.spot) c.alone-way.ensures.mode c.alone-way.ensures.place c.in_ok-note.ensures
