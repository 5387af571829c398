use Rattle.std.proofs.Common.{◌∙◌, reverse, sym}
use Rattle.std.proofs.lemmas.Bool.{not-false}
use Rattle.journal_replay.proofs.Calm.{calm_of}
use Rattle.journal_replay.proofs.rule.due_inside.Goals as goal

pub due_calm-requires-clause-calm : goal.due_calm-requires-clause-calm
due_calm-requires-clause-calm g c =
    let said = c.course_of-course.ensures in
    calm_of c.args.past.now.plan.now (reverse c.args.past.now.journal.now) c.args.place
    (sym said.started ∙ not-false _ c.if-not-course.false)
    (sym said.ended ∙ c.if-course.false)
    (sym said.undoing ∙ c.if-course-2.false)
    (sym c.is_doomed.ensures ∙ c.if-is_doomed.false)
    (sym said.raised ∙ c.if-course-3.false)
