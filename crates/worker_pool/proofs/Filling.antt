-- What is known while seats are queued and hands are made.
use Rattle.std.proofs.Common.{◌≡◌, ℕ, suc, ◌+◌, ◌-◌, ◌≤◌, ◌<◌, List, [], ◌∷◌, ◌++◌, length, reverse, sym, ap, ◌∙◌, subst, slice_get, Some, All, append_assoc, rules, vec_capacity}
use native.Mathlib.Omega.{arith}
use Rattle.std.proofs.lemmas.List.{reverse-append}
use Rattle.action_manager.specs.declared.seat.Seat.{Seat}
use Rattle.worker_pool.specs.declared.hand_view.HandView.{HandView}
use Rattle.action_manager.specs.Seats.{IsBeside}
use Rattle.worker_pool.specs.Relays.{AreBeside, IsOfTheirs}
use Rattle.action_manager.proofs.Beside.{both_beside}
use Rattle.crossbeam_queue.specs.Passes.{view, IsPassOf}
use Rattle.worker_pool.specs.declared.hands.Hand.{Hand}
use Rattle.worker_pool.specs.declared.hands.Relay.{Relay}
use Rattle.worker_pool.specs.inner.Steps.{new_hand}
use Rattle.worker_pool.specs.Hands.{IsHandOf, held_by}
use Rattle.worker_pool.proofs.Parts.{part_one, part_last}

module _ {M : Type 0} where
  -- one seat more is queued
  pub whole_more : (opened rest : List (Seat M)) (x : Seat M) (all : List (Seat M)) → opened ++ reverse (rest ++ x ∷ []) ≡ all
      → (opened ++ x ∷ []) ++ reverse rest ≡ all
  whole_more opened rest x all e = append_assoc opened (x ∷ []) (reverse rest)
      ∙ (ap (λ l. opened ++ l) (sym (reverse-append rest (x ∷ []))) ∙ e)

  head_of : (x : Seat M) (more : List (Seat M)) → slice_get (x ∷ more) 0 ≡ Some x
  head_of x more = search rules

  middle : (P : Seat M → Type 0) (opened : List (Seat M)) (x : Seat M) (more : List (Seat M)) → All P ((opened ++ x ∷ []) ++ more) → P x
  middle P [] x more all = all 0 x (omega arith)
  middle P (y ∷ ys) x more all = middle P ys x more (λ k d less. all (suc k) d (omega (arith, less)))

  first_of : (opened : List (Seat M)) (x : Seat M) (more : List (Seat M)) (first : Seat M) → slice_get opened 0 ≡ Some first
      → slice_get ((opened ++ x ∷ []) ++ more) 0 ≡ Some first
  first_of [] x more first at = search rules
  first_of (y ∷ ys) x more first at = at

  -- the next seat is of the manager of those before it
  pub next_theirs : (opened : List (Seat M)) (x : Seat M) (more all : List (Seat M)) → (opened ++ x ∷ []) ++ more ≡ all
      → AreBeside all → IsOfTheirs opened x
  next_theirs opened x more all e beside first at =
      middle (IsBeside first) opened x more
      (subst (All (IsBeside first)) (sym e)
      (beside first (subst (λ l. slice_get l 0 ≡ Some first) e (first_of opened x more first at))))

  -- and of its own
  pub next_own : (opened : List (Seat M)) (x : Seat M) (more all : List (Seat M)) → (opened ++ x ∷ []) ++ more ≡ all
      → AreBeside all → IsBeside x x
  next_own [] x more all e beside =
      middle (IsBeside x) [] x more (subst (All (IsBeside x)) (sym e) (beside x (subst (λ l. slice_get l 0 ≡ Some x) e (head_of x more))))
  next_own (y ∷ ys) x more all e beside =
      let other : IsBeside y x =
      middle (IsBeside y) (y ∷ ys) x more
      (subst (All (IsBeside y)) (sym e) (beside y (subst (λ l. slice_get l 0 ≡ Some y) e (head_of y ((ys ++ x ∷ []) ++ more))))) in
      both_beside y.token.table_id y.token.me.0.terms x x other other

module _ {M : Type 0} (relay : Relay M) where
  -- a hand that was cut off
  pub cut_hand : (v : HandView M) (hand : Hand M) (number : ℕ) → hand.number ≡ number → IsPassOf relay.queue hand.pass
      → v.opened ≡ relay.opened.value.items → view hand.pass ≡ new_hand v
      → number + 1 < relay.hands → hand.spare.items ≡ [] → IsHandOf relay hand × (held_by hand ≡ [])
  cut_hand v hand number named here opened is less empty = (
    record {
      here = here;
      known = omega (arith, named, less);
      opened = ap (λ (x : HandView M). x.opened) is ∙ opened;
      parts = ap (λ (x : HandView M). x.parts) is ∙ sym (part_one relay.hands hand.number (omega (arith, named, less)));
      empty = empty;
      room = λ last. absurd (omega (arith, last, named, less));
    },
    ap (λ (x : HandView M). x.held) is,
  )

  -- the last hand
  pub last_hand : (hand : Hand M) (number : ℕ) → hand.number ≡ number → IsPassOf relay.queue hand.pass
      → (view hand.pass).opened ≡ relay.opened.value.items → number + 1 ≡ relay.hands → (view hand.pass).parts ≡ 18 - relay.hands
      → (view hand.pass).held ≡ [] → hand.spare.items ≡ [] → length relay.opened.value.items ≤ vec_capacity hand.spare
      → IsHandOf relay hand × (held_by hand ≡ [])
  last_hand hand number named here opened last parts held empty room = (
    record {
      here = here;
      known = omega (arith, named, last);
      opened = opened;
      parts = parts ∙ sym (part_last relay.hands hand.number (omega (arith, named, last)));
      empty = empty;
      room = λ _. room;
    },
    held,
  )
