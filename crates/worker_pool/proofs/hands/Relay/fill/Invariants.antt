use Rattle.std.proofs.Common.{◌≡◌, ◌≤◌, ◌++◌, length, reverse, vec_capacity}
use Rattle.crossbeam_queue.specs.Passes.{view, IsPassOf}
use Rattle.worker_pool.specs.Relays.{AreBeside}
use Rattle.worker_pool.specs.inner.Steps.{full_hand}
use Rattle.worker_pool.proofs.hands.Relay.fill.Given as goal

abbrev pub invariant-loop-seat : goal.invariant-loop-seat
invariant-loop-seat g l = record {
  here : IsPassOf l.self.queue l.pass;
  mine : view l.pass ≡ full_hand (view l.pass).opened;
  whole : (view l.pass).opened ++ reverse l.seats.items ≡ l.self.opened.value.items;
  room : length l.self.opened.value.items ≤ vec_capacity l.seats;
  beside : AreBeside l.self.opened.value.items;
}

abbrev pub decreases-loop-seat : goal.decreases-loop-seat
decreases-loop-seat g l = goal.left-loop-seat g l
