use Rattle.std.proofs.Common.{◌∙◌, ap, sym, arith, Some}
use Rattle.atomic_table.specs.Table.{step}
use mathlib.Core.Option.{none}
use Rattle.action_manager.proofs.LockSteps.{looks, came, in_hand}
use Rattle.action_manager.proofs.lock.Lock.take.Goals as goal

pub load-requires : goal.load-requires
load-requires g c =
    let i = c.loop.invariant in
    let t = c.args.self.now.sized in
    let key = c.args.self.now.table.shared.key in
    let home = g.H.Home in (
      i.0 ∙ c.requires.token.0,
      omega (arith, t.0),
      looks (home.terms key.plan.value key.home.value)
          (home.journal key.home.value) home.right home.journal c.args.self.now.table.shared.table_id.slots
          c.loop.token.id c.loop.token.me (ap (λ m. m.1) i.2 ∙ c.requires.token.1)
          (ap (λ m. m.0.holds) i.2 ∙ c.requires.waits.0) (ap (λ m. m.0.has_book) i.2 ∙ c.requires.waits.1)
          (ap (λ m. m.0.terms) i.2 ∙ c.requires.about),
    )

pub exchange-requires : goal.exchange-requires
exchange-requires g c =
    let i = c.loop.invariant in
    let key = c.args.self.now.table.shared.key in
    let home = g.H.Home in
    let r =
    came (home.terms key.plan.value key.home.value) (home.journal key.home.value) home.right home.journal
    (step c.args.self.now.table.shared.table_id.slots 1 0 0 none) c.loop.token.me c.load.result c.load.new.seat.me
    (ap (λ m. m.0.ticket) i.2 ∙ c.requires.waits.2 ∙ sym c.if-load-ticket.true) c.load.ensures.2 in
    (c.load.ensures.0 ∙ i.0 ∙ c.requires.token.0, (Some r.machine, in_hand c.load.new.seat.me 0 (Some r.machine) (ap (λ m. m.1) r.is)))
