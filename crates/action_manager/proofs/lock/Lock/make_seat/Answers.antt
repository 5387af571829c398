use Rattle.std.proofs.Common.{arith, ap}
use Rattle.action_manager.proofs.LockSteps.{splits}
use Rattle.action_manager.proofs.lock.Lock.make_seat.Goals as goal

pub split_seat-requires : goal.split_seat-requires
split_seat-requires g c =
    let t = c.args.self.now.sized in let key = c.args.self.now.table.shared.key in let making = c.requires.making in
    let home = g.H.Home in (
      c.requires.table,
      omega (arith, t.0),
      splits (home.terms key.plan.value key.home.value)
          (home.journal key.home.value) home.right home.journal c.args.making.now.id c.args.making.now.me.0
          (ap (λ m. m.0.making) making) c.requires.room,
    )
