use Rattle.std.proofs.Common.{◌∙◌, ap, subst, All}
use Rattle.worker_pool.specs.declared.hand_view.HandView.{HandView}
use Rattle.worker_pool.specs.Hands.{IsHandOf}
use Rattle.action_manager.proofs.Gathered.{all_split}
use Rattle.worker_pool.proofs.Keeping.{merges}
use Rattle.worker_pool.proofs.Gathering.{gathered_parts, gathered_held, gathered_some}
use Rattle.worker_pool.proofs.hands.Relay.gather.Goals as goal

pub absorb-requires-clause-rule : goal.absorb-requires-clause-rule
absorb-requires-clause-rule g c = merges _ _ _ _ c.loop-hand.invariant.some

pub loop-hand-preserved : goal.loop-hand-preserved
loop-hand-preserved g c =
    let inv = c.loop-hand.invariant in
    let items = c.in-Some.ensures.items in
    let rule = c.absorb.ensures.rule in
    record {
      here = (c.absorb.ensures.queue.0 ∙ inv.here.0, c.absorb.ensures.queue.2 ∙ inv.here.1);
      opened = ap (λ (v : HandView _). v.opened) rule ∙ inv.opened;
      some = gathered_some _ _ _ c.in-Some.hand _ _ rule (ap (λ t. t.0.me.0.client) c.into_parts-other.ensures) items inv.some;
      hands = (all_split (λ h. IsHandOf c.args.self.now h) c.pop.new.self.items c.in-Some.hand
          (subst (λ xs. All (λ h. IsHandOf c.args.self.now h) xs) items inv.hands)).0;
      parts = gathered_parts _ _ _ c.in-Some.hand _ _ rule (ap (λ t. t.0.me.0.client) c.into_parts-other.ensures) items _ inv.parts;
      held = λ h. gathered_held _ _ _ c.in-Some.hand _ _ rule (ap (λ t. t.0.me.0.client) c.into_parts-other.ensures) items h _ (inv.held h);
    }
