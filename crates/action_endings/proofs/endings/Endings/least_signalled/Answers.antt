use Rattle.std.proofs.Common.{◌∙◌, subst}
use Rattle.core_words.specs.Joining.{IsCoverOf}
use Rattle.place_plan.specs.Plans.Places.{roles_of, interface_of}
use Rattle.action_endings.specs.inner.KeptEndings.{at}
use Rattle.action_endings.proofs.RightAnswers.{all_given_right}
use Rattle.action_endings.proofs.Concluding.{signals_right}
use Rattle.action_endings.proofs.endings.Endings.least_signalled.Goals as goal

pub returns-clause-stands : goal.returns-clause-stands
returns-clause-stands c = λ past s all.
    let plan = c.args.plan.now in
    let p = c.args.place in
    let row = at c.args.self.now p in
    subst (λ xs. IsCoverOf (interface_of plan p) xs c.joined_signals.result)
    (signals_right plan past p row (s.verdicts p) (roles_of plan p) (all_given_right plan past p row (s.verdicts p) ∙ all))
    c.joined_signals.ensures
