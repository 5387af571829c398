use Rattle.std.proofs.Common.{reverse, sym}
use Rattle.journal_laws.proofs.Over.{over_from}
use Rattle.journal_laws.proofs.PlayablePlan.{is_playable}
use Rattle.journal_replay.proofs.rule.due_outside.Goals as goal

pub returns-in-None-clause-right : goal.returns-in-None-clause-right
returns-in-None-clause-right g c =
    let past = c.args.past.now in
    over_from past.plan.now (is_playable past.plan.now c.is_closed.ensures) (reverse past.journal.now) past.legal c.args.by
    c.requires.out (sym c.in-None.ensures)
