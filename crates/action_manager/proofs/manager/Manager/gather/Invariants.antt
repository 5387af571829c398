use Rattle.std.proofs.Common.{◌≡◌, ◌++◌, true, false, length, map, reverse, All}
use Rattle.action_manager.specs.inner.Turns.{held}
use Rattle.action_manager.specs.Managers.{table_of, terms_in}
use Rattle.action_manager.specs.Seats.{IsSeatOf, stand}
use Rattle.action_manager.proofs.manager.Manager.gather.Given as goal

abbrev pub invariant-loop-seat : goal.invariant-loop-seat
invariant-loop-seat g l = record {
  table : l.kept.table_id ≡ table_of l.self;
  seated : (l.kept.me.0.seated ≡ true) × (l.kept.me.0.holds ≡ false) × (l.kept.me.0.has_book ≡ false);
  others : All (λ s. IsSeatOf (table_of l.self) (terms_in g.M.Machine.base_of l.self) s) l.others.items;
  all : held l.kept.me.0 ++ reverse (map stand l.others.items) ≡ held l.initial.kept.me.0 ++ reverse (map stand l.initial.others.items);
}

abbrev pub decreases-loop-seat : goal.decreases-loop-seat
decreases-loop-seat g l = length l.others.items
