use Rattle.std.proofs.Common.{◌≡◌, ◌-◌}
use Rattle.place_plan.specs.Plans.Places.{graph_at, exception_name}
use Rattle.journal_text.specs.Texts.Naming.{index_among}
use Rattle.journal_text.proofs.texts.name_tokens.exception_in.Given as goal

abbrev pub invariant-loop-exception : goal.invariant-loop-exception
invariant-loop-exception l =
    index_among (exception_name l.plan l.graph) l.word l.exception ((graph_at l.plan l.graph).count - l.exception)
    ≡ index_among (exception_name l.plan l.graph) l.word 0 ((graph_at l.plan l.graph).count)
