use Rattle.std.proofs.Common.{◌∙◌, ap, arith}
use Rattle.action_manager.proofs.LockSteps.{draws}
use Rattle.action_manager.proofs.lock.Lock.draw.Goals as goal

pub compare_exchange-found-requires : goal.compare_exchange-found-requires
compare_exchange-found-requires g c =
    let i = c.loop.invariant in
    let t = c.args.self.now.sized in
    let key = c.args.self.now.table.shared.key in
    let home = g.H.Home in (
      i.0 ∙ c.requires.token.0,
      omega (arith, t.0),
      draws (home.terms key.plan.value key.home.value)
          (home.journal key.home.value) home.right home.journal c.args.self.now.table.shared.table_id.slots
          c.loop.token.id c.peek-next.result c.loop.token.me (ap (λ m. m.0.seated) i.2 ∙ c.requires.idle.2)
          (ap (λ m. m.0.taken) i.2 ∙ c.requires.idle.3) (ap (λ m. m.0.holds) i.2 ∙ c.requires.idle.0)
          (ap (λ m. m.0.has_book) i.2 ∙ c.requires.idle.1),
    )
