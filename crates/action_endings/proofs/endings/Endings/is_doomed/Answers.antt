use Rattle.std.proofs.Common.{◌∙◌}
use Rattle.action_endings.proofs.RightAnswers.{doomed_right}
use Rattle.action_endings.proofs.endings.Endings.is_doomed.Goals as goal

pub returns-clause-stands : goal.returns-clause-stands
returns-clause-stands c = λ past s.
    c.is_inside_raised.ensures ∙ doomed_right c.args.plan.now past c.args.self.now c.args.place s
