use Rattle.std.proofs.Common.{◌≡◌, length}
use Rattle.script_outcomes.specs.inner.RuledOut.{RulesOutOnly}
use Rattle.script_outcomes.proofs.outlooks.Inside.rows.Given as goal

abbrev pub invariant-loop-number : goal.invariant-loop-number
invariant-loop-number l = (length l.rows.items ≡ l.number) × RulesOutOnly l.nevers l.rows.items
