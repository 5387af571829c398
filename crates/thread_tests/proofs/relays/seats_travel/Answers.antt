use Rattle.action_manager.specs.Managers.{table_of, terms_in}
use Rattle.worker_pool.proofs.Pooled.{theirs_all}
use Rattle.thread_tests.proofs.relays.seats_travel.Goals as goal

pub close-requires : goal.close-requires
close-requires g c =
    let manager = c.in_ok-manager.manager in record {
      opened = theirs_all (table_of manager) (terms_in g.M.Machine.base_of manager) c.in_ok-manager.seats.items c.passed_on.result.items
          c.passed_on.ensures.some c.in_ok-manager.ensures c.passed_on.ensures.theirs;
    }
