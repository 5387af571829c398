use Rattle.std.proofs.Common.{◌∙◌, ap}
use Rattle.action_endings.specs.declared.ending.Ending.{Ending}
use Rattle.action_endings.proofs.endings.Endings.is_undoing.Goals as goal

pub returns-clause-stands : goal.returns-clause-stands
returns-clause-stands c = λ plan past s. ap (λ (row : Ending). row.undoing) c.row.ensures ∙ (s.rest c.args.place).undoing
