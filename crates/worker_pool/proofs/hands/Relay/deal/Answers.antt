use Rattle.std.proofs.Common.{◌≡◌, ◌-◌, ◌∙◌, [], ap, sym, refl, subst, All}
use native.Mathlib.Omega.{arith}
use Rattle.crossbeam_queue.specs.Passes.{view}
use Rattle.worker_pool.specs.declared.hand_view.HandView.{HandView}
use Rattle.worker_pool.specs.Hands.{IsHandOf, held_by, number_of}
use Rattle.worker_pool.proofs.Keeping.{forks}
use Rattle.std.specs.List.{range_with_len}
use Rattle.std.proofs.lemmas.List.Elements.{All-push}
use Rattle.action_manager.proofs.Gathered.{order_more}
use Rattle.worker_pool.proofs.Filling.{cut_hand, last_hand}
use Rattle.worker_pool.proofs.hands.Relay.deal.Goals as goal

pub another-requires-clause-rule : goal.another-requires-clause-rule
another-requires-clause-rule g c =
    let p = c.loop-number.invariant.parts in
    let few = c.args.self.now.few.1 in
    let less = c.loop-number-test.true in
    forks _ _ (omega (arith, p, few, less))

pub loop-number-preserved : goal.loop-number-preserved
loop-number-preserved g c =
    let inv = c.loop-number.invariant in
    let queue = c.another.ensures.queue in
    let rule = c.another.ensures.rule in
    let items = c.push_reserved.ensures.items in
    let p = inv.parts in
    let few = c.args.self.now.few.1 in
    let less = c.loop-number-test.true in
    record {
      here = (queue.0.0 ∙ inv.here.0, queue.0.2 ∙ inv.here.1);
      opened = ap (λ (v : HandView _). v.opened) rule.0 ∙ inv.opened;
      parts = (let e = ap (λ (v : HandView _). v.parts) rule.0 in omega (arith, e, p, few, less));
      held = ap (λ (v : HandView _). v.held) rule.0 ∙ inv.held;
      room = c.push_reserved.ensures.capacity ∙ inv.room;
      count = (let l = c.push_reserved.ensures.len in let n = inv.count in grind (arith, l, n));
      order = order_more number_of _ _ _ c.loop-number.number items inv.order refl;
      hands = subst (All (λ h. IsHandOf c.args.self.now h × (held_by h ≡ []))) (sym items)
          (All-push (λ h. IsHandOf c.args.self.now h × (held_by h ≡ [])) c.loop-number.hands.items _ inv.hands
          (cut_hand c.args.self.now (view c.loop-number.pass) _ c.loop-number.number refl queue.1 inv.opened rule.1
          (omega (arith, less)) c.new.ensures.items));
    }

pub returns-clause-order : goal.returns-clause-order
returns-clause-order g c =
    let inv = c.loop-number.invariant in
    let up = c.loop-number.auto.number-end in
    let down = c.loop-number-test.false in
    let some = c.args.self.now.few.0 in
    order_more number_of _ _ _ c.loop-number.number c.push_reserved-2.ensures.items inv.order (omega (arith, up, down))
    ∙ ap (range_with_len 0) (omega (arith, up, down, some))

pub returns-clause-hands : goal.returns-clause-hands
returns-clause-hands g c =
    let inv = c.loop-number.invariant in
    let up = c.loop-number.auto.number-end in
    let down = c.loop-number-test.false in
    let some = c.args.self.now.few.0 in
    let p = inv.parts in
    subst (All (λ h. IsHandOf c.args.self.now h × (held_by h ≡ []))) (sym c.push_reserved-2.ensures.items)
    (All-push (λ h. IsHandOf c.args.self.now h × (held_by h ≡ [])) c.loop-number.hands.items _ inv.hands
    (last_hand c.args.self.now _ (c.args.self.now.hands - 1) refl inv.here inv.opened (omega (arith, some))
    (let e : (view c.loop-number.pass).parts ≡ 18 - c.args.self.now.hands = omega (arith, up, down, some, p) in e)
    inv.held c.requires.spare.0 c.requires.spare.1))
