use Rattle.std.proofs.Common.{◌≡◌, ◌-◌, map, length, vec_capacity, All, []}
use Rattle.std.specs.List.{range_with_len}
use Rattle.crossbeam_queue.specs.Passes.{view, IsPassOf}
use Rattle.worker_pool.specs.Hands.{number_of, held_by, IsHandOf}
use Rattle.worker_pool.proofs.hands.Relay.deal.Given as goal

abbrev pub invariant-loop-number : goal.invariant-loop-number
invariant-loop-number g l = record {
  here : IsPassOf l.self.queue l.pass;
  opened : (view l.pass).opened ≡ l.self.opened.value.items;
  parts : (view l.pass).parts ≡ 17 - l.number;
  held : (view l.pass).held ≡ [];
  room : vec_capacity l.hands ≡ l.self.hands;
  count : length l.hands.items ≡ l.number;
  order : map number_of l.hands.items ≡ range_with_len 0 l.number;
  hands : All (λ h. IsHandOf l.self h × (held_by h ≡ [])) l.hands.items;
}
