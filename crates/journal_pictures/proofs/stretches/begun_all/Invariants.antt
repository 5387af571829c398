use Rattle.std.proofs.Common.{◌≡◌, ◌+◌, ◌≤◌, ℕ, length, eqb, ltb, ◌&&◌}
use Rattle.std.specs.List.{All, count_by}
use Rattle.journal_states.specs.Past.{plan_in, journal_in, taken_in}
use Rattle.journal_pictures.specs.Stretches.{has_moment}
use Rattle.journal_pictures.specs.inner.Lanes.{LiesIn, AreOpen, one_if}
use Rattle.journal_pictures.proofs.stretches.begun_all.Given as goal

abbrev pub invariant-loop-lane : goal.invariant-loop-lane
invariant-loop-lane l = record {
  within : l.lane ≤ length (plan_in l.states).participants;
  goes : AreOpen l.lane (taken_in l.states + 1) l.next.items;
  next : All (LiesIn (plan_in l.states) (journal_in l.states) (taken_in l.states) (taken_in l.states + 1)) l.next.items;
  number : (t k : ℕ) → count_by (has_moment t k) l.next.items ≡ one_if (ltb t l.lane && eqb (taken_in l.states) k);
}
