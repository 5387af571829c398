use Rattle.std.proofs.lemmas.Result.{IfOk-weaker}
use Rattle.fault_trials.proofs.Lines.{grown_grown}
use Rattle.fault_trials.proofs.trials.try_more.Goals as goal

pub returns-clause-grown : goal.returns-clause-grown
returns-clause-grown c =
    IfOk-weaker c.try_way-2.result _ _ (λ after grown. grown_grown _ _ _ c.in_ok-plan.ensures.grown grown) c.try_way-2.ensures.grown
