use Rattle.std.proofs.Common.{◌∙◌, ◌==◌, not, ap}
use Rattle.action_endings.specs.declared.ending.Ending.{Ending}
use Rattle.action_endings.proofs.endings.Endings.has_aborts.Goals as goal

pub returns-clause-stands : goal.returns-clause-stands
returns-clause-stands c = λ plan past s. ap (λ (row : Ending). not (row.aborted == 0)) c.row.ensures ∙ (s.rest c.args.place).some_aborted
