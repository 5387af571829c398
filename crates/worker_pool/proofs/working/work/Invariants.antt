use Rattle.worker_pool.specs.Hands.{number_of}
use Rattle.worker_pool.specs.inner.Workers.{IsAtWork}
use Rattle.worker_pool.proofs.working.work.Given as goal

abbrev pub invariant-loop : goal.invariant-loop
invariant-loop g l = IsAtWork l.relay (number_of l.fn.worker.hand) l.worker
