use Rattle.std.proofs.Common.{refl}
use Rattle.fault_trials.specs.Measures.{IsWayBy}
use Rattle.fault_trials.proofs.Measured.{grew_once}
use Rattle.fault_trials.proofs.measure.note_end.Goals as goal

pub returns-clause-ways : goal.returns-clause-ways
returns-clause-ways c =
    grew_once (IsWayBy c.args.plan.now c.args.ending.now) _ _ _ c.in_ok-add_way.ensures
    (record { ends = c.requires; play = refl; mark = refl; exception = refl })
