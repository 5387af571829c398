use Rattle.fault_trials.proofs.Alone.{none_refused}
use Rattle.fault_trials.proofs.Lines.{whole_more}
use Rattle.fault_trials.proofs.Measured.{measured_more}
use Rattle.fault_trials.proofs.trials.play_base.Goals as goal

pub returns-clause-whole : goal.returns-clause-whole
returns-clause-whole c =
    whole_more c.args.known.plan _ c.args.known.bases.items _ _ c.in_ok-told.ensures.plan c.in_ok-push.ensures.items c.requires.whole
    c.in_ok-told.ensures.legal c.in_ok-told.ensures.complete (none_refused _ c.in_ok-told.ensures.faults)

pub returns-clause-measured : goal.returns-clause-measured
returns-clause-measured c =
    measured_more c.args.known.plan _ c.args.known.measure _ c.args.known.bases.items _ _ _ c.in_ok-told.ensures.plan
    c.in_ok-push.ensures.items c.as_slice.ensures c.requires.measured c.in_ok-note.ensures.lefts c.in_ok-note.ensures.ways
