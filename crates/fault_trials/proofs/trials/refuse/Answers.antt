use Rattle.std.proofs.lemmas.Result.{IfOk-weaker}
use Rattle.fault_trials.proofs.Lines.{grown_grown, tried_later}
use Rattle.fault_trials.proofs.trials.refuse.Goals as goal

pub returns-clause-grown : goal.returns-clause-grown
returns-clause-grown c =
    IfOk-weaker c.try_two.result _ _
    (λ after grown. grown_grown _ _ _ c.in_ok-tried.ensures.grown (grown_grown _ _ _ c.in_ok-more.ensures.grown grown))
    c.try_two.ensures.grown

pub returns-clause-tried : goal.returns-clause-tried
returns-clause-tried c =
    IfOk-weaker c.try_two.result _ _
    (λ after grown. tried_later c.args.plan c.args.bench.now.measure _ _ c.args.base.now.journal.entries c.args.put.now.index
    c.args.put.now.entry (grown_grown _ _ _ c.in_ok-more.ensures.grown grown) c.in_ok-tried.ensures.tried)
    c.try_two.ensures.grown
