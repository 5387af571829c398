use Rattle.std.specs.List.{All}
use Rattle.journal_states.specs.Past.{plan_in, past_in}
use Rattle.journal_page.specs.Stances.{IsStance, ShowsWellFormed}
use Rattle.journal_page.proofs.turns.stances_now.Given as goal

abbrev pub invariant-loop-by : goal.invariant-loop-by
invariant-loop-by g l = record {
  right : All (IsStance (g.L.Lines.line_at l.lines) (plan_in l.states) (past_in l.states)) l.stances.items;
  well_formed : All (ShowsWellFormed (plan_in l.states)) l.stances.items;
}
