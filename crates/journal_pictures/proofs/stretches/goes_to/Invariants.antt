use Rattle.std.proofs.Common.{◌≡◌}
use Rattle.journal_states.specs.Past.{plan_in, journal_in, taken_in}
use Rattle.journal_pictures.proofs.stretches.goes_to.Given as goal

abbrev pub invariant-loop-made : goal.invariant-loop-made
invariant-loop-made l = record {
  plan : plan_in l.states ≡ plan_in l.fn.states;
  journal : journal_in l.states ≡ journal_in l.fn.states;
  taken : taken_in l.states ≡ l.made;
}
