use Rattle.std.proofs.Common.{◌∙◌, sym, ap}
use Rattle.caa_base.specs.declared.written.entry.Kind.TheVariants as kind
use Rattle.place_plan.specs.RulesOfJournals.Entries.{is_by, newest}
use Rattle.journal_laws.proofs.Silence.{none_newest}
use Rattle.journal_replay.specs.Questions.{name_of_abort}
use Rattle.action_core.proofs.Answering.{name_told}
use Rattle.action_core.proofs.kept.name_kept.Goals as goal

pub abort_of-requires-clause-aborted : goal.abort_of-requires-clause-aborted
abort_of-requires-clause-aborted c = sym c.has_aborted.ensures.kept ∙ c.if-has_aborted.true

pub returns-then-has_aborted : goal.returns-then-has_aborted
returns-then-has_aborted c = λ past s.
    c.abort_of.ensures.stands past s ∙ name_told (newest (is_by kind.Abort c.args.place c.args.by) past)

pub returns-else-has_aborted : goal.returns-else-has_aborted
returns-else-has_aborted c = λ past s.
    sym
    (ap name_of_abort (none_newest (is_by kind.Abort c.args.place c.args.by) past (sym (c.has_aborted.ensures.stands past s)
    ∙ c.if-has_aborted.false)))
