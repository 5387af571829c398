use Rattle.std.proofs.Common.{◌∙◌}
use Rattle.action_endings.specs.inner.KeptEndings.{at}
use Rattle.action_endings.proofs.RightAnswers.{given_right}
use Rattle.action_endings.proofs.endings.Endings.given.Goals as goal

pub returns-clause-stands : goal.returns-clause-stands
returns-clause-stands c = λ past s.
    let p = c.args.place in
    c.verdict_given.ensures ∙ given_right c.args.plan.now past p c.args.by (at c.args.self.now p) (s.verdicts p)
