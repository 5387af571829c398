use Rattle.std.proofs.Common.{◌≡◌, length}
use Rattle.std.specs.List.{All}
use Rattle.journal_states.specs.Past.{plan_in, journal_in, taken_in}
use Rattle.journal_page.specs.Stances.{TurnsWellFormed, AreTurns}
use Rattle.journal_page.proofs.turns.turns_of.Given as goal

abbrev pub invariant-loop-entry : goal.invariant-loop-entry
invariant-loop-entry g l = record {
  plan : plan_in l.states ≡ l.plan;
  journal : journal_in l.states ≡ l.entries;
  taken : taken_in l.states ≡ l.entry-index;
  counted : length l.turns.items ≡ l.entry-index;
  turns : AreTurns (g.L.Lines.line_at l.lines) l.plan l.entries l.turns.items;
  formed : All (TurnsWellFormed l.plan) l.turns.items;
}
