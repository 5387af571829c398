use Rattle.std.proofs.Common.{◌∙◌, ap}
use Rattle.cover_table.specs.Cover.{has_bit}
use Rattle.action_endings.specs.declared.ending.Ending.{Ending}
use Rattle.action_endings.proofs.endings.Endings.has_aborted.Goals as goal

pub returns-clause-stands : goal.returns-clause-stands
returns-clause-stands c = λ past s.
    c.is_in.ensures ∙ (ap (λ (row : Ending). has_bit row.aborted c.args.by) c.row.ensures ∙ (s.rest c.args.place).aborted c.args.by)
