use Rattle.std.proofs.Common.{◌∙◌, sym}
use Rattle.action_endings.specs.inner.KeptEndings.{at}
use Rattle.action_endings.proofs.RightAnswers.{name_right}
use Rattle.action_endings.proofs.endings.Endings.abort_of.Goals as goal

pub returns-clause-stands : goal.returns-clause-stands
returns-clause-stands c = λ past s.
    let p = c.args.place in
    c.named_by.ensures
    ∙ name_right c.args.plan.now past p c.args.by (at c.args.self.now p) (s.rest p)
    (sym ((s.rest p).aborted c.args.by) ∙ c.requires.aborted)
