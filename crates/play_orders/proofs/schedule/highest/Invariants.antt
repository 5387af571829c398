use Rattle.std.proofs.Common.{◌≡◌, ◌<◌, ℕ, true, false}
use Rattle.std.specs.Prelude.{IfSome, IfNone}
use Rattle.cover_table.specs.Cover.{has_bit}
use Rattle.play_orders.proofs.schedule.highest.Given as goal

abbrev pub invariant-loop-by : goal.invariant-loop-by
invariant-loop-by l = record {
  awake : IfSome l.best (λ t. (t < l.participants) × (has_bit l.asleep t ≡ false));
  none : IfNone l.best ((t : ℕ) → t < l.by → has_bit l.asleep t ≡ true);
}
