use Rattle.std.proofs.Common.{◌+◌, ◌*◌, ◌≤◌, length}
use Rattle.journal_pictures.proofs.ApartLemmas.{AreLeftOf}
use Rattle.journal_pictures.proofs.layout.axes_of.Given as goal

abbrev pub invariant-loop-lane : goal.invariant-loop-lane
invariant-loop-lane l = record {
  within : l.lane ≤ length l.plan.participants;
  small : l.left ≤ 48 + l.lane * 1048576;
  placed : AreLeftOf l.lane l.left l.axes.items;
}
