use Rattle.std.proofs.Common.{◌∙◌}
use Rattle.action_endings.proofs.RightAnswers.{next_right}
use Rattle.action_endings.proofs.endings.Endings.next_restore.Goals as goal

pub returns-clause-stands : goal.returns-clause-stands
returns-clause-stands c = λ past s.
    c.first_untried.ensures ∙ next_right c.args.plan.now c.is_closed.ensures past c.args.self.now c.args.place s
