use Rattle.std.proofs.Common.{reverse}
use Rattle.journal_laws.proofs.PlayablePlan.{is_playable}
use Rattle.journal_replay.proofs.DueMoves.{is_move}
use Rattle.journal_replay.proofs.rule.move_of.Goals as goal

pub returns : goal.returns
returns g c =
    let plan = c.args.past.now.plan.now in
    let past = reverse c.args.past.now.journal.now in
    is_move plan (is_playable plan c.is_closed.ensures) past c.args.past.now.legal
    (c.due_is_right.ensures past c.args.past.now.legal) c.args.by c.move_due.result c.move_due.ensures.entry c.move_due.ensures.right
