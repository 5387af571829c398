use Rattle.std.proofs.Common.{◌∙◌, ◌≤◌, is_some, length, reverse, sym, ap, arith}
use Rattle.caa_base.specs.Written.Lists.{same_option}
use Rattle.place_plan.specs.Plans.Places.{parent}
use Rattle.journal_laws.proofs.PlayablePlan.{is_playable}
use Rattle.journal_replay.proofs.Composing.{told_free, unknown_free}
use Rattle.journal_replay.proofs.questions.is_ready.Goals as goal

-- nobody holds an object that isn't there
pub returns-else-object-objects : goal.returns-else-object-objects
returns-else-object-objects g c =
    let past = c.args.past.now in
    let outer = parent past.plan.now c.args.place in
    let high : length past.plan.now.objects ≤ c.args.object = omega (arith, c.objects.ensures, c.if-object-objects.false) in
    told_free outer c.is_none.result (ap (λ o. is_some o) (sym c.parent-outer.ensures) ∙ c.is_none.ensures)
    ∙ ap (λ h. same_option h outer)
    (sym (unknown_free past.plan.now (is_playable past.plan.now c.is_closed.ensures) (reverse past.journal.now) c.args.object high))
