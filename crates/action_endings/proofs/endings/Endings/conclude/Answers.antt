use Rattle.std.proofs.Common.{subst, sym}
use Rattle.action_endings.specs.inner.KeptEndings.{at, KeepsVerdicts, KeepsRest}
use Rattle.action_endings.specs.inner.ChangedEndings.{IsReady, Concludes}
use Rattle.action_endings.proofs.Concluding.{right_end}
use Rattle.action_endings.proofs.endings.Endings.conclude.Goals as goal

pub returns-clause-stands : goal.returns-clause-stands
returns-clause-stands c = λ past e s says.
    let plan = c.args.plan.now in
    let row = at c.args.self.now c.args.place in
    let here = sym says.here in
    right_end plan past e row c.outcome.result
    (subst (λ p. KeepsVerdicts plan past p row) here (s.verdicts c.args.place))
    (subst (λ p. KeepsRest plan past p row) here (s.rest c.args.place))
    (subst (λ p. IsReady plan p row) here c.requires.ready) (subst (λ p. Concludes plan p row c.outcome.result) here c.outcome.ensures)
    says.mark says.arg
