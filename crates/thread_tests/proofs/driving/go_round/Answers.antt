use Rattle.std.proofs.lemmas.List.Elements.{All-set}
use Rattle.action_manager.specs.Managers.{IsSeatIn}
use Rattle.thread_tests.proofs.driving.go_round.Goals as goal

pub loop-index-preserved : goal.loop-index-preserved
loop-index-preserved g c =
    let inv = c.loop-index.invariant in let manager = c.args.manager.now in let base_of = g.M.Machine.base_of in (
      inv.0,
      All-set (λ s. IsSeatIn base_of manager s) c.loop-index.seats.items c.loop-index.index c.go_on.new.seat
          c.go_on.ensures.opened inv.1,
    )
