use Rattle.std.proofs.Common.{◌≡◌, ◌<◌, ◌+◌, ℕ, All}
use Rattle.std.specs.List.{sum_by}
use Rattle.crossbeam_queue.specs.Passes.{view, IsPassOf}
use Rattle.worker_pool.specs.Hands.{IsHandOf, weight_by, parts_by}
use Rattle.worker_pool.proofs.hands.Relay.gather.Given as goal

abbrev pub invariant-loop-hand : goal.invariant-loop-hand
invariant-loop-hand g l = record {
  here : IsPassOf l.self.queue l.pass;
  opened : (view l.pass).opened ≡ l.self.opened.value.items;
  some : 0 < (view l.pass).parts;
  hands : All (λ h. IsHandOf l.self h) l.others.items;
  parts : (view l.pass).parts + sum_by parts_by l.others.items ≡ (view l.initial.pass).parts + sum_by parts_by l.initial.others.items;
  held : (h : ℕ → ℕ) → sum_by h (view l.pass).held + sum_by (weight_by h) l.others.items ≡ sum_by h (view l.initial.pass).held
      + sum_by (weight_by h) l.initial.others.items;
}

abbrev pub decreases-loop-hand : goal.decreases-loop-hand
decreases-loop-hand g l = goal.left-loop-hand g l
