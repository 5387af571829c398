use Rattle.std.proofs.Common.{◌≡◌, ◌+◌, ◌≤◌, length}
use Rattle.journal_states.specs.Past.{taken_in}
use Rattle.journal_pictures.specs.inner.Lanes.{AreOpen}
use Rattle.journal_pictures.proofs.PartLemmas.{IsFound}
use Rattle.journal_pictures.proofs.stretches.stretches_of.Given as goal

abbrev pub invariant-loop-row : goal.invariant-loop-row
invariant-loop-row l = record {
  within : l.row ≤ l.more;
  taken : taken_in l.states ≡ l.first + l.row;
  goes : AreOpen (length l.plan.participants) (taken_in l.states + 1) l.going.items;
  found : IsFound l.plan l.entries l.first l.states l.done.items l.going.items;
}
