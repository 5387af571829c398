use Rattle.std.proofs.Common.{◌≡◌, false, take}
use Rattle.worker_pool.specs.Hands.{has_hand}
use Rattle.worker_pool.proofs.hands.Relay.last_at.Given as goal

abbrev pub invariant-loop-index : goal.invariant-loop-index
invariant-loop-index g l = has_hand l.last (take l.index l.hands) ≡ false
