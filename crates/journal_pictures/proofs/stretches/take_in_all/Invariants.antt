use Rattle.std.proofs.Common.{◌≡◌, ◌+◌, ◌≤◌, ℕ, length, eqb, ltb, ◌&&◌, take}
use Rattle.std.specs.List.{All, count_by}
use Rattle.journal_states.specs.Past.{plan_in, journal_in, taken_in}
use Rattle.journal_pictures.specs.Stretches.{has_moment}
use Rattle.journal_pictures.specs.inner.Lanes.{LiesIn, AreOpen, one_if}
use Rattle.journal_pictures.proofs.stretches.take_in_all.Given as goal

abbrev pub invariant-loop-stretch : goal.invariant-loop-stretch
invariant-loop-stretch l = record {
  within : l.stretch-index ≤ length l.former;
  goes : AreOpen l.stretch-index (taken_in l.states + 1) l.next.items;
  next : (first : ℕ) → All (LiesIn (plan_in l.states) (journal_in l.states) first (taken_in l.states)) l.former
      → All (LiesIn (plan_in l.states) (journal_in l.states) first (taken_in l.states + 1)) l.next.items;
  done : (first : ℕ) → All (LiesIn (plan_in l.states) (journal_in l.states) first (taken_in l.states)) l.former
      → All (LiesIn (plan_in l.states) (journal_in l.states) first (taken_in l.states)) l.fn.done.items
      → All (LiesIn (plan_in l.states) (journal_in l.states) first (taken_in l.states)) l.done.items;
  number : (t k : ℕ) → count_by (has_moment t k) l.done.items + count_by (has_moment t k) l.next.items
      ≡ count_by (has_moment t k) l.fn.done.items + count_by (has_moment t k) (take l.stretch-index l.former)
      + one_if (ltb t l.stretch-index && eqb (taken_in l.states) k);
}
