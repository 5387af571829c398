use Rattle.std.proofs.Common.{◌∙◌, ap}
use Rattle.cover_table.specs.Cover.{has_bit}
use Rattle.action_endings.specs.declared.ending.Ending.{Ending}
use Rattle.action_endings.proofs.endings.Endings.has_given.Goals as goal

pub returns-clause-stands : goal.returns-clause-stands
returns-clause-stands c = λ plan past s.
    c.is_in.ensures ∙ (ap (λ (row : Ending). has_bit row.given c.args.by) c.row.ensures ∙ (s.verdicts c.args.place).given c.args.by)
