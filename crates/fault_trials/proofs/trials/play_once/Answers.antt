use Rattle.fault_trials.proofs.Alone.{once_few}
use Rattle.fault_trials.proofs.trials.play_once.Goals as goal

pub returns-clause-few : goal.returns-clause-few
returns-clause-few c =
    once_few c.new-plant.result.has_refused c.in_ok-told.told.1.has_refused _ c.in_ok-told.ensures.faults
