use Rattle.std.proofs.Common.{◌≡◌, ◌≤◌, ◌∙◌, ◌++◌, ap, sym, subst, reverse, length}
use native.Mathlib.Omega.{arith}
use Rattle.std.proofs.lemmas.List.{reverse-reverse}
use Rattle.crossbeam_queue.specs.Passes.{view}
use Rattle.worker_pool.specs.declared.hand_view.HandView.{HandView}
use Rattle.worker_pool.specs.Relays.{AreBeside}
use Rattle.worker_pool.specs.inner.Steps.{full_hand}
use Rattle.worker_pool.proofs.Keeping.{opens, no_longer}
use Rattle.worker_pool.proofs.Filling.{whole_more, next_theirs, next_own}
use Rattle.worker_pool.proofs.hands.Relay.fill.Goals as goal

pub loop-seat-init : goal.loop-seat-init
loop-seat-init g c = record {
  here = c.requires.pass.0;
  mine = c.requires.pass.1 ∙ ap full_hand (sym (ap (λ (v : HandView _). v.opened) c.requires.pass.1));
  whole = ap (λ (v : HandView _). v.opened ++ reverse c.reverse.new.self.items) c.requires.pass.1
      ∙ (ap reverse c.reverse.ensures.items ∙ (reverse-reverse c.args.seats.items ∙ sym c.requires.opened));
  room =
      (let l = c.args.seats.ok in
      let o = ap length c.requires.opened in
      let k = c.reverse.ensures.capacity in
      omega (arith, l.0, l.1, o, k));
  beside = subst AreBeside (sym c.requires.opened) c.requires.beside;
}

pub push_as-requires-clause-rule : goal.push_as-requires-clause-rule
push_as-requires-clause-rule g c =
    let inv = c.loop-seat.invariant in
    let parts : (view c.loop-seat.pass).parts ≡ 17 = ap (λ (v : HandView _). v.parts) inv.mine in
    let all : 17 ≤ (view c.loop-seat.pass).parts = omega (arith, parts) in
    let whole = whole_more (view c.loop-seat.pass).opened c.pop.new.self.items c.in-Some.seat _
    (ap (λ l. (view c.loop-seat.pass).opened ++ reverse l) (sym c.in-Some.ensures.items) ∙ inv.whole) in (
      opens _ _ _ c.in-Some.seat all (next_theirs _ c.in-Some.seat _ _ whole inv.beside)
          (next_own _ c.in-Some.seat _ _ whole inv.beside),
      no_longer _ _ all,
    )
