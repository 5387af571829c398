use Rattle.std.proofs.Common.{◌∙◌, reverse, ap}
use Rattle.journal_laws.proofs.PlayablePlan.{is_playable}
use Rattle.journal_replay.specs.inner.Deciding.{enters}
use Rattle.journal_replay.proofs.Entering.{handler_stays}
use Rattle.journal_replay.proofs.rule.due_handler.Goals as goal

pub due_step-requires-clause-stays : goal.due_step-requires-clause-stays
due_step-requires-clause-stays g c =
    let past = c.args.past.now in
    ap enters c.step_and_register-step.ensures.step
    ∙ handler_stays past.plan.now (is_playable past.plan.now c.is_closed.ensures) (reverse past.journal.now) c.args.place c.args.by
    c.requires.handled
