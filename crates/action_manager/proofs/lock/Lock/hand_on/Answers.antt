use Rattle.std.proofs.Common.{◌≡◌, ◌∙◌, ap, sym, subst, arith, [], ◌∷◌, Some}
use Rattle.action_manager.specs.OwnEntries.{Grows}
use Rattle.atomic_table.specs.Table.{rest}
use Rattle.action_manager.proofs.LockSteps.{hands}
use Rattle.action_manager.proofs.lock.Lock.hand_on.Goals as goal

pub store-requires : goal.store-requires
store-requires g c =
    let e = c.exchange-empty.ensures in
    let t = c.args.self.now.sized in
    let key = c.args.self.now.table.shared.key in
    let home = g.H.Home in
    let view = ap (λ m. m.0) e.3 in
    let full : c.exchange-empty.new.seat.me.1 ≡ (0, Some c.args.home) ∷ [] =
    ap (λ m. m.1) e.3 ∙ ap (λ l. (0, Some c.args.home) ∷ rest l) c.requires.token.1 in (
      e.0 ∙ c.requires.token.0,
      omega (arith, t.0),
      hands (home.terms key.plan.value key.home.value)
          (home.journal key.home.value) home.right home.journal c.args.self.now.table.shared.table_id.slots
          c.exchange-empty.new.seat.id c.args.ticket c.exchange-empty.new.seat.me c.args.home full
          (ap (λ v. v.holds) view ∙ c.requires.turn.0) (ap (λ v. v.has_book) view ∙ c.requires.turn.1)
          (ap (λ v. v.ticket) view ∙ c.requires.turn.2) c.requires.right
          (subst (λ v. Grows v.who v.book (home.journal c.args.home)) (sym view) c.requires.grown),
    )
