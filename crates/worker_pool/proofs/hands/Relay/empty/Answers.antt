use Rattle.std.proofs.Common.{◌≤◌, ◌∙◌, ◌++◌, length, length-append, map, All, sym, ap, subst}
use Rattle.crossbeam_queue.specs.Passes.{view}
use Rattle.worker_pool.specs.Relays.{all_parts, IsOfTheirs}
use Rattle.action_manager.specs.Seats.{participant_of}
use native.Mathlib.Omega.{arith}
use Rattle.std.proofs.lemmas.List.{length-map}
use Rattle.std.proofs.lemmas.List.Elements.{All-push}
use Rattle.worker_pool.specs.declared.hand_view.HandView.{HandView}
use Rattle.worker_pool.proofs.Keeping.{takes, are_all}
use Rattle.worker_pool.proofs.Endings.{held_more, at_end}
use Rattle.worker_pool.proofs.hands.Relay.empty.Goals as goal

pub pop_as-requires-clause-rule : goal.pop_as-requires-clause-rule
pop_as-requires-clause-rule g c = (takes _ _ (let p = c.loop.invariant.parts in omega (arith, p)), are_all _ _ c.loop.invariant.parts)

pub loop-preserved : goal.loop-preserved
loop-preserved g c =
    let rule = c.in-Some-pop_as.ensures.rule in
    let inv = c.loop.invariant in
    let items = c.push_reserved.ensures.items in record {
      here = (c.pop_as.ensures.queue.0 ∙ inv.here.0, c.pop_as.ensures.queue.2 ∙ inv.here.1);
      opened = ap (λ (v : HandView _). v.opened) rule.held ∙ inv.opened;
      parts = subst (λ (v : HandView _). all_parts ≤ v.parts) (sym rule.held) inv.parts;
      held = ap (λ (v : HandView _). v.held) rule.held
          ∙ (held_more _ _ c.in-Some-pop_as.seat _ inv.held ∙ ap (λ xs. (view c.args.pass).held ++ map participant_of xs) (sym items));
      room = subst (λ n. length c.args.self.opened.value.items ≤ n) (sym c.push_reserved.ensures.capacity) inv.room;
      theirs = subst (λ xs. All (λ x. IsOfTheirs c.args.self.opened.value.items x) xs) (sym items)
          (All-push (λ x. IsOfTheirs c.args.self.opened.value.items x) c.loop.seats.items c.in-Some-pop_as.seat inv.theirs
          (subst (λ o. IsOfTheirs o c.in-Some-pop_as.seat) inv.opened rule.theirs));
    }

pub returns-in-None-pop_as-clause-once : goal.returns-in-None-pop_as-clause-once
returns-in-None-pop_as-clause-once g c h =
    let rule = c.in-None-pop_as.ensures.rule in
    at_end (view c.loop.pass) _ _ _ _ c.loop.invariant.opened c.loop.invariant.held rule.1.1 rule.1.2 h

pub returns-in-None-pop_as-clause-theirs : goal.returns-in-None-pop_as-clause-theirs
returns-in-None-pop_as-clause-theirs g c = c.loop.invariant.theirs

pub returns-in-None-pop_as-clause-room : goal.returns-in-None-pop_as-clause-room
returns-in-None-pop_as-clause-room g c = c.loop.invariant.room

pub push_reserved-requires : goal.push_reserved-requires
push_reserved-requires g c =
    let rule = c.in-Some-pop_as.ensures.rule in let inv = c.loop.invariant in
    let before = (view c.args.pass).held in let seats = c.loop.seats.items in
    let many = ap length inv.held ∙ length-append before (map participant_of seats) in
    omega (arith, rule.room, many, length-map seats participant_of, ap length inv.opened, inv.room, c.loop.seats.ok.0)
