use Rattle.std.proofs.Common.{◌≡◌, ℕ, List, length}
use Rattle.exception_graph.specs.inner.Closing.{AreClosedOver, StayBelow, TellChains, TellMore}
use Rattle.exception_graph.proofs.closing.close.Given as goal

abbrev pub invariant-loop-over : goal.invariant-loop-over
invariant-loop-over l = record {
  as_many : length l.rows ≡ length l.initial.rows;
  more : TellMore l.initial.rows l.rows;
  closed : AreClosedOver l.rows l.over;
  chains : (pairs : List (ℕ × ℕ)) → TellChains (length l.initial.rows) pairs l.initial.rows
      → TellChains (length l.initial.rows) pairs l.rows;
  within : (count : ℕ) → StayBelow count l.initial.rows → StayBelow count l.rows;
}
