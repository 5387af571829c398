use Rattle.std.proofs.Common.{◌≤◌, ◌∙◌, ◌++◌, ◌∷◌, [], sym, subst, length, All, Contains}
use native.Mathlib.Omega.{arith}
use Rattle.std.proofs.lemmas.List.Elements.{All-push, Contains-push}
use Rattle.action_manager.specs.Managers.{table_of, terms_in}
use Rattle.action_manager.specs.Seats.{participant_of}
use Rattle.worker_pool.specs.Hands.{IsOpened, held_by, opened_in}
use Rattle.worker_pool.proofs.SeatsHeld.{theirs_in, in_theirs, put_back, keep_one, as_many}
use Rattle.worker_pool.proofs.working.work.Goals as goal

pub step_while_due-requires : goal.step_while_due-requires
step_while_due-requires g c = record {
  opened = theirs_in (table_of c.args.manager.now) (terms_in g.M.Machine.base_of c.args.manager.now) _ _ c.args.relay.now.some
      c.requires.relay c.in-Some-take.ensures.theirs;
}

pub put-requires-clause-holds : goal.put-requires-clause-holds
put-requires-clause-holds g c =
    let seat = c.wait_if_fruitless.new.seat in
    let same = c.wait_if_fruitless.ensures.same ∙ c.step_while_due.ensures.same in
    subst (λ l. Contains l (participant_of seat)) (sym c.in-Some-take.ensures.held)
    (subst (λ p. Contains (held_by c.loop.worker.hand ++ p ∷ []) (participant_of seat)) same
    (Contains-push (held_by c.loop.worker.hand) (participant_of seat)))

pub put-requires-clause-opened : goal.put-requires-clause-opened
put-requires-clause-opened g c =
    in_theirs (table_of c.args.manager.now) (terms_in g.M.Machine.base_of c.args.manager.now) _ _ c.requires.relay
    c.wait_if_fruitless.ensures.opened

pub loop-preserved-in-Waits : goal.loop-preserved-in-Waits
loop-preserved-in-Waits g c =
    let inv = c.loop.invariant in
    let same = c.wait_if_fruitless.ensures.same ∙ c.step_while_due.ensures.same in record {
      hand = c.put.ensures.hand;
      numbered = c.put.ensures.number ∙ (c.take.ensures.number ∙ inv.numbered);
      opened = inv.opened;
      held = λ h. put_back h _ _ _ _ _ _ same c.in-Some-take.ensures.held c.put.ensures.held (inv.held h);
      room = inv.room;
    }

pub push_reserved-requires : goal.push_reserved-requires
push_reserved-requires g c =
    let inv = c.loop.invariant in
    let many = as_many (held_by c.loop.worker.hand) c.loop.worker.kept.items inv.held in
    let room = c.in-Some-take.ensures.room in
    let len = c.loop.worker.kept.ok in
    let all = inv.room in
    omega (arith, many, room, all, len.0)

pub loop-preserved : goal.loop-preserved
loop-preserved g c =
    let inv = c.loop.invariant in
    let relay = c.args.relay.now in
    let items = c.push_reserved.ensures.items in record {
      hand = c.take.ensures.hand;
      numbered = c.take.ensures.number ∙ inv.numbered;
      opened = subst (All (λ s. IsOpened relay s)) (sym items)
          (All-push (λ s. IsOpened relay s) c.loop.worker.kept.items _ inv.opened
          (in_theirs (table_of c.args.manager.now) (terms_in g.M.Machine.base_of c.args.manager.now) _ _ c.requires.relay
          c.step_while_due.ensures.opened));
      held = λ h. keep_one h _ _ _ _ _ _ c.step_while_due.ensures.same c.in-Some-take.ensures.held items (inv.held h);
      room = subst (λ n. length (opened_in relay) ≤ n) (sym c.push_reserved.ensures.capacity) inv.room;
    }
