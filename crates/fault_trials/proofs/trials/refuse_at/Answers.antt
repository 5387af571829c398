use Rattle.std.proofs.Common.{subst}
use Rattle.std.proofs.lemmas.Result.{IfOk-weaker}
use Rattle.fault_trials.specs.Puts.{IsPutAt, HasNoPutAt}
use Rattle.fault_trials.proofs.Lines.{grown_none, put_again, tries_put, tries_none}
use Rattle.fault_trials.proofs.trials.refuse_at.Goals as goal

pub refuse-requires : goal.refuse-requires
refuse-requires c =
    put_again c.args.plan c.args.base.now.journal.entries c.args.index c.in-Some.put
    (subst (λ journal. IsPutAt c.args.plan journal c.args.index c.in-Some.put) c.as_slice.ensures c.in-Some.ensures.put)

pub returns-in-Some-clause-tried : goal.returns-in-Some-clause-tried
returns-in-Some-clause-tried c =
    IfOk-weaker c.refuse.result _ _
    (λ after so. tries_put c.args.plan c.args.bench.now.measure _ c.args.base.now.journal.entries c.args.index c.in-Some.put
    (subst (λ journal. IsPutAt c.args.plan journal c.args.index c.in-Some.put) c.as_slice.ensures c.in-Some.ensures.put) so)
    c.refuse.ensures.tried

pub returns-in-None-clause-grown : goal.returns-in-None-clause-grown
returns-in-None-clause-grown c = grown_none c.args.findings.now.lines.items

pub returns-in-None-clause-tried : goal.returns-in-None-clause-tried
returns-in-None-clause-tried c =
    tries_none c.args.plan c.args.bench.now.measure c.args.findings.now.lines.items c.args.base.now.journal.entries c.args.index
    (subst (λ journal. HasNoPutAt journal c.args.index) c.as_slice.ensures c.in-None.ensures.none)
