use Rattle.std.proofs.Common.{◌∙◌, reverse, sym, ap}
use Rattle.caa_base.specs.declared.written.entry.Kind.TheVariants as kind
use Rattle.place_plan.specs.RulesOfJournals.Entries.{is_by, newest}
use Rattle.place_plan.specs.RulesOfJournals.Rules.{mapped_by_outcome}
use Rattle.journal_replay.proofs.Composing.{name_right}
use Rattle.journal_replay.proofs.questions.mapped_by_outcome.Goals as goal

pub returns-in-Aborted : goal.returns-in-Aborted
returns-in-Aborted g c =
    let past = c.args.past.now in
    let abort = newest (is_by kind.Abort c.args.place c.args.by) (reverse past.journal.now) in
    c.abort_mapped.ensures ∙ name_right past.plan.now c.args.place abort
    ∙ sym (ap (mapped_by_outcome past.plan.now c.args.place abort) c.in-Aborted.is)
