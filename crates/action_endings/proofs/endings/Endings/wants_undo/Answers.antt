use Rattle.std.proofs.Common.{◌∙◌, ap}
use Rattle.action_endings.specs.declared.ending.Ending.{Ending}
use Rattle.action_endings.specs.inner.KeptEndings.{at}
use Rattle.action_endings.proofs.RightAnswers.{undo_right}
use Rattle.action_endings.proofs.endings.Endings.wants_undo.Goals as goal

pub returns-clause-stands : goal.returns-clause-stands
returns-clause-stands c = λ plan past s all.
    ap (λ (row : Ending). row.undo) c.row.ensures
    ∙ undo_right plan past c.args.place (at c.args.self.now c.args.place) (s.verdicts c.args.place) all
