use Rattle.std.proofs.Common.{◌≡◌, ap, ◌∙◌}
use Rattle.std.proofs.lemmas.List.Elements.{All-same}
use Rattle.place_plan.specs.RulesOfJournals.WellFormed.{IsWellFormed}
use Rattle.journal_pictures.specs.Marks.{drawn, marks_from}
use Rattle.journal_pictures.proofs.MarksLemmas.{marks_drawn}
use Rattle.journal_pictures.proofs.chart.chart.Goals as goal

pub text_of-requires-clause-formed : goal.text_of-requires-clause-formed
text_of-requires-clause-formed c =
    let part : c.drawn-part.result.now ≡ drawn c.args.first c.args.count c.args.journal.now.entries =
    c.drawn-part.ensures.part ∙ ap (drawn c.args.first c.args.count) c.as_slice-entries.ensures in
    All-same (λ m. IsWellFormed c.args.plan.now m.entry) _ _
    (c.in_ok-parts.ensures.marks ∙ ap (marks_from 0) part)
    (marks_drawn (IsWellFormed c.args.plan.now) c.args.first c.args.count c.args.journal.now.entries c.requires)
