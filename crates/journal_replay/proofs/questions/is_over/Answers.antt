use Rattle.std.proofs.Common.{◌∙◌, ◌&&◌, is_none, reverse, ap₂}
use Rattle.journal_laws.proofs.PlayablePlan.{is_playable}
use Rattle.journal_replay.proofs.Composing.{over_right}
use Rattle.journal_replay.proofs.questions.is_over.Goals as goal

pub returns : goal.returns
returns g c =
    let past = c.args.past.now in
    c.is_neither.ensures ∙ ap₂ (λ a b. is_none a && is_none b) c.inside.ensures c.next_play.ensures
    ∙ over_right past.plan.now (is_playable past.plan.now c.is_closed.ensures) (reverse past.journal.now) past.legal c.args.by
