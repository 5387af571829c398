use Rattle.std.proofs.Common.{◌≡◌, length, map, Some}
use Rattle.left_right.specs.Sides.{view}
use Rattle.shared_views.specs.Committing.{placeless}
use Rattle.shared_views.proofs.committed_writer.seat_all.Given as goal

abbrev pub invariant-loop-index : goal.invariant-loop-index
invariant-loop-index l = record {
  many : length l.observers.items ≡ length l.initial.observers.items;
  same : map placeless l.observers.items ≡ map placeless l.initial.observers.items;
  shown :
      (l.writer.desk.shown ≡ l.initial.writer.desk.shown) × (l.writer.log ≡ l.initial.writer.log)
      × (l.writer.behind ≡ l.initial.writer.behind);
  knows : (view l.writer.desk.place).known ≡ Some l.writer.desk.shown.value.publications;
}
