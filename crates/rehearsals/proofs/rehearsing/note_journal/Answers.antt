use Rattle.std.proofs.Common.{◌∙◌}
use Rattle.std.proofs.lemmas.Result.{IfOk-weaker}
use Rattle.rehearsals.proofs.JournalsCounted.{one_more_rehearsed}
use Rattle.rehearsals.proofs.rehearsing.note_journal.Goals as goal

pub returns-clause-counts : goal.returns-clause-counts
returns-clause-counts c =
    IfOk-weaker c.note.result _ _
    (λ after counts. one_more_rehearsed c.args.plan.now c.args.paths.now c.args.tally.rows after.rows c.args.tally.noted
    c.args.journal.now.entries c.deref.result.now c.requires.counts c.requires.legal c.requires.complete c.requires.drilled
    (c.deref.ensures.value ∙ c.in_ok-facts.ensures) counts)
    c.note.ensures.counts
