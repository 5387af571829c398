use Rattle.std.proofs.Common.{arith}
use Rattle.action_manager.proofs.LockSteps.{joins}
use Rattle.action_manager.proofs.lock.Lock.take_in.Goals as goal

pub join_seat-requires : goal.join_seat-requires
join_seat-requires g c =
    let sized = c.args.self.now.sized in let key = c.args.self.now.table.shared.key in let home = g.H.Home in
    let kept = c.args.kept.now in let other = c.args.other in let k = c.requires.kept in let o = c.requires.other in (
      c.requires.table.0,
      c.requires.table.1,
      c.requires.table.2,
      omega (arith, sized.0),
      joins (home.terms key.plan.value key.home.value)
          (home.journal key.home.value) home.right home.journal kept.id other.id kept.me.0 other.me.0 k.0 o.0 k.1 o.1
          k.2 o.2,
    )
