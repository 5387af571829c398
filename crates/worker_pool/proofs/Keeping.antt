-- Each step keeps the rule of a relay.
use Rattle.std.proofs.Common.{rules, ◌≡◌, ◌≢◌, ℕ, zero, suc, ◌+◌, ◌<◌, ◌≤◌, List, [], ◌∷◌, ◌++◌, length, set, sym, refl, ap, subst, Contains, ⊎_elim, slice_get, Some}
use mathlib.Core.Option.{some-ne-none, some-injective}
use native.Mathlib.Omega.{arith}
use Rattle.std.specs.List.{sum_by}
use Rattle.std.proofs.lemmas.List.Sums.{sum_by-cons, sum_by-append}
use Rattle.crossbeam_queue.specs.Fifo.{Pushes, Pops, Forks, Merges, Learns}
use Rattle.crossbeam_queue.proofs.Lists.{at_set, at_snoc}
use Rattle.action_manager.specs.declared.seat.Seat.{Seat}
use Rattle.worker_pool.specs.declared.hand_view.HandView.{HandView}
use Rattle.action_manager.specs.Seats.{participant_of, IsBeside}
use Rattle.worker_pool.specs.SeatLists.{without}
use Rattle.worker_pool.specs.Relays.{all_parts, weight_of, parts_in, IsAt, IsOfTheirs, AreOfTheirs, RelayRule, RuleHeldFor}
use Rattle.worker_pool.specs.inner.Steps.{first_hand, left_hand, new_hand, both_hands, spent_hand, Opened, IsNoLonger, Took, DidPut, IsShort, AreAll}
use Rattle.worker_pool.proofs.Weights.{total_set, part_le, parts_le, total_more, total_alone, ones, without_weighs}

abbrev Same : {M : Type 0} → List (Seat M) → HandView M → Type 0
Same opened v = 0 < v.parts → v.opened ≡ opened

abbrev Spent : {M : Type 0} → HandView M → Type 0
Spent v = v.parts ≡ 0 → v.held ≡ []

module _ {M : Type 0} where
  -- what holds of the new view and of each other one holds of all
  each_set : (P : HandView M → Type 0) (views : List (HandView M)) (k : ℕ) (w : (HandView M)) → P w
      → ((j : ℕ) (u : (HandView M)) → IsAt views j u → P u)
      → (j : ℕ) (u : (HandView M)) → IsAt (set views k w) j u → P u
  each_set P views k w mine others j u at =
      ⊎_elim (λ (t : (j ≡ k) × (w ≡ u)). subst P t.1 mine) (λ (t : (j ≢ k) × IsAt views j u). others j u t.1) (at_set views k j w u at)

  -- with one queued seat more or less
  theirs_more : (opened queued : List (Seat M)) (x : Seat M) → AreOfTheirs opened queued → IsOfTheirs opened x
      → AreOfTheirs opened (queued ++ x ∷ [])
  theirs_more opened [] x all one = (one, tt)
  theirs_more opened (y ∷ ys) x all one = (all.0, theirs_more opened ys x all.1 one)

  alone_same : (k : ℕ) (v : (HandView M)) → IsAt (first_hand ∷ []) k v → v.opened ≡ []
  alone_same zero v at = ap (λ (u : (HandView M)). u.opened) (sym (some-injective first_hand v at))
  alone_same (suc k) v at = absurd (some-ne-none v (sym at))

  alone_held : (k : ℕ) (v : (HandView M)) → IsAt (first_hand ∷ []) k v → v.held ≡ []
  alone_held zero v at = ap (λ (u : (HandView M)). u.held) (sym (some-injective first_hand v at))
  alone_held (suc k) v at = absurd (some-ne-none v (sym at))

  pub begins : RelayRule {M = M} [] (first_hand ∷ [])
  begins = record {
    opened = [];
    parts = refl;
    same = λ k v at some_part. alone_same k v at;
    spent = λ k v at none. alone_held k v at;
    balance = λ h. refl;
    theirs = tt;
  }

  -- ---- a change of one view

  -- the rule after one view changed and the queue too
  changed : (queued queued' : List (Seat M)) (views : List (HandView M)) (k : ℕ) (v w : (HandView M))
      (kept : RelayRule queued views) → IsAt views k v
      → w.parts ≡ v.parts → Same kept.opened w → Spent w
      → ((h : ℕ → ℕ) → weight_of h queued' + sum_by h w.held ≡ weight_of h queued + sum_by h v.held)
      → AreOfTheirs kept.opened queued'
      → RelayRule queued' (set views k w)
  changed queued queued' views k v w kept at parts same spent weighs theirs = record {
    opened = kept.opened;
    parts = (let s = total_set (λ (u : (HandView M)). u.parts) views k v w at in let p = kept.parts in omega (arith, s, p, parts));
    same = each_set (Same kept.opened) views k w same kept.same;
    spent = each_set Spent views k w spent kept.spent;
    balance = λ h. (let s = total_set (λ (u : (HandView M)). sum_by h u.held) views k v w at in let b =
        kept.balance h in let c = weighs h in omega (arith, s, b, c));
    theirs = theirs;
  }

  -- ---- taking and putting

  longer : (queued : List (Seat M)) (views : List (HandView M)) (k : ℕ) (v : (HandView M)) (kept : RelayRule queued views)
      → IsAt views k v → 0 < v.parts
      → length queued + length v.held ≤ length v.opened
  longer queued views k v kept at some_part =
      let b = kept.balance (λ _. 1) in
      let p = part_le (λ (u : (HandView M)). sum_by (λ _. 1) u.held) views k v at in
      let o : length v.opened ≡ length kept.opened = ap length (kept.same k v at some_part) in
      omega (arith, b, p, o, ones kept.opened, ones queued, ones v.held)

  pub takes : (k : ℕ) (v : (HandView M)) → 0 < v.parts → Pops RelayRule k v (Took v)
  takes k v some_part x items views kept at =
      let o : v.opened ≡ kept.opened = kept.same k v at some_part in
      let w : (HandView M) = record v { held = v.held ++ participant_of x ∷ [] } in (
        w,
        changed (x ∷ items) items views k v w kept at refl (λ _. o) (λ none. absurd (omega (arith, none, some_part)))
            (λ h. omega (arith, total_more h v.held (participant_of x), sum_by-cons (λ s. h (participant_of s)) x items))
            kept.theirs.1,
        record {
          held = refl;
          theirs = subst (λ o'. IsOfTheirs o' x) (sym o) kept.theirs.0;
          room = (let l = longer (x ∷ items) views k v kept at some_part in omega (arith, l));
        },
      )

  pub knows : (k : ℕ) (v : (HandView M)) → Learns RelayRule k v (RuleHeldFor v)
  knows k v items views kept at = (views, k, at, kept)

  pub puts : (n k : ℕ) (v : (HandView M)) (x : Seat M) → 0 < v.parts → Contains v.held (participant_of x)
      → IsOfTheirs v.opened x → Pushes RelayRule n k v x (DidPut v x)
  puts n k v x some_part has one items views few kept at =
      let o : v.opened ≡ kept.opened = kept.same k v at some_part in
      let w : (HandView M) = record v { held = without (participant_of x) v.held } in (
        w,
        changed items (items ++ x ∷ []) views k v w kept at refl (λ _. o) (λ none. absurd (omega (arith, none, some_part)))
            (λ h. omega (arith, without_weighs h (participant_of x) v.held has, total_more (λ (s : Seat M). h (participant_of s)) items x))
            (theirs_more kept.opened items x kept.theirs (subst (λ o'. IsOfTheirs o' x) o one)),
        refl,
      )

  pub short : (k : ℕ) (v : (HandView M)) (x : ℕ) → 0 < v.parts → Contains v.held x → Learns RelayRule k v (IsShort v)
  short k v x some_part has items views kept at =
      let l = longer items views k v kept at some_part in
      let below = has.1 in
      omega (arith, l, below)

  -- ---- opening

  others_idle : (views : List (HandView M)) (k : ℕ) (v : (HandView M)) → IsAt views k v → parts_in views ≤ v.parts
      → (j : ℕ) (u : (HandView M)) → j ≢ k → IsAt views j u → u.parts ≡ 0
  others_idle views k v at all j u apart at' =
      let p = parts_le (λ (y : (HandView M)). y.parts) views k j v u (λ e. apart (sym e)) at at' in omega (arith, p, all)

  theirs_stay : (x z : Seat M) (xs : List (Seat M)) (queued : List (Seat M)) → AreOfTheirs (x ∷ xs) queued
      → AreOfTheirs (x ∷ (xs ++ z ∷ [])) queued
  theirs_stay x z xs [] all = tt
  theirs_stay x z xs (y ∷ ys) all = (all.0, theirs_stay x z xs ys all.1)

  none_of : (queued : List (Seat M)) → length queued ≤ 0 → queued ≡ []
  none_of [] few = refl
  none_of (x ∷ xs) few = absurd (omega arith)

  given_first : (x first : Seat M) → slice_get (x ∷ []) 0 ≡ Some first → x ≡ first
  given_first x first at = search rules

  theirs_opened : (opened queued : List (Seat M)) (x : Seat M) → length queued ≤ length opened → AreOfTheirs opened queued
      → IsOfTheirs opened x → IsBeside x x
      → AreOfTheirs (opened ++ x ∷ []) (queued ++ x ∷ [])
  theirs_opened [] queued x few all one own =
      subst (λ q. AreOfTheirs (x ∷ []) (q ++ x ∷ [])) (sym (none_of queued few))
      ((λ first at. subst (λ s. IsBeside s x) (given_first x first at) own), tt)
  theirs_opened (y ∷ ys) queued x few all one own = theirs_more (y ∷ (ys ++ x ∷ [])) queued x (theirs_stay y x ys queued all) one

  pub opens : (n k : ℕ) (v : HandView M) (x : Seat M) → all_parts ≤ v.parts → IsOfTheirs v.opened x → IsBeside x x
      → Pushes RelayRule n k v x (Opened v x)
  opens n k v x all one own items views few kept at =
      let some_part : 0 < v.parts = omega (arith, all) in
      let o : v.opened ≡ kept.opened = kept.same k v at some_part in
      let w : HandView M = record v { opened = v.opened ++ x ∷ [] } in
      let most : parts_in views ≤ v.parts = (let p = kept.parts in omega (arith, p, all)) in
      let idle : (j : ℕ) (u : HandView M) → j ≢ k → IsAt views j u → u.parts ≡ 0 = others_idle views k v at most in
      let long = longer items views k v kept at some_part in (
        w,
        record {
          opened = v.opened ++ x ∷ [];
          parts = (let s = total_set (λ (u : HandView M). u.parts) views k v w at in let p = kept.parts in omega (arith, s, p));
          same = λ j u at' some. ⊎_elim (λ (t : (j ≡ k) × (w ≡ u)). ap (λ (y : HandView M). y.opened) (sym t.1))
              (λ (t : (j ≢ k) × IsAt views j u). let i = idle j u t.0 t.1 in absurd (omega (arith, i, some))) (at_set views k j w u at');
          spent = each_set Spent views k w (λ none. absurd (omega (arith, none, some_part))) kept.spent;
          balance = λ h.
              (let s = total_set (λ (u : HandView M). sum_by h u.held) views k v w at in
              let b = kept.balance h in
              let o' : weight_of h v.opened ≡ weight_of h kept.opened = ap (weight_of h) o in
              omega (
                arith,
                s,
                b,
                o',
                total_more (λ (y : Seat M). h (participant_of y)) items x,
                total_more (λ (y : Seat M). h (participant_of y)) v.opened x,
              ));
          theirs = theirs_opened v.opened items x (omega (arith, long)) (subst (λ o'. AreOfTheirs o' items) (sym o) kept.theirs) one own;
        },
        refl,
      )

  pub no_longer : (k : ℕ) (v : HandView M) → all_parts ≤ v.parts → Learns RelayRule k v (IsNoLonger v)
  no_longer k v all items views kept at = let l = longer items views k v kept at (omega (arith, all)) in omega (arith, l)

  -- ---- further hands

  pub forks : (k : ℕ) (v : HandView M) → 1 < v.parts → Forks RelayRule k v (left_hand v) (new_hand v)
  forks k v two items views kept at =
      let l : HandView M = left_hand v in
      let r : HandView M = new_hand v in
      let o : v.opened ≡ kept.opened = kept.same k v at (omega (arith, two)) in
      record {
        opened = kept.opened;
        parts =
            (let s = total_set (λ (u : HandView M). u.parts) views k v l at in
            let m = total_more (λ (u : HandView M). u.parts) (set views k l) r in
            let p = kept.parts in
            omega (arith, s, m, p, two));
        same = λ j u at'. ⊎_elim (each_set (Same kept.opened) views k l (λ _. o) kept.same j u)
            (λ (is : r ≡ u). subst (Same kept.opened) is (λ _. o)) (at_snoc (set views k l) r u j at');
        spent = λ j u at'. ⊎_elim (each_set Spent views k l (λ none. absurd (omega (arith, none, two))) kept.spent j u)
            (λ (is : r ≡ u). subst Spent is (λ _. refl)) (at_snoc (set views k l) r u j at');
        balance = λ h.
            (let s = total_set (λ (u : HandView M). sum_by h u.held) views k v l at in
            let m = total_more (λ (u : HandView M). sum_by h u.held) (set views k l) r in
            let b = kept.balance h in
            omega (arith, s, m, b));
        theirs = kept.theirs;
      }

  -- ---- joining

  pub merges : (k : ℕ) (v : HandView M) (other : ℕ) (w : HandView M) → 0 < v.parts
      → Merges RelayRule k v other w (both_hands v w) spent_hand
  merges k v other w some_part items views kept at two at' =
      let b : HandView M = both_hands v w in
      let o : v.opened ≡ kept.opened = kept.same k v at some_part in
      record {
        opened = kept.opened;
        parts =
            (let s = total_set (λ (u : HandView M). u.parts) views k v b at in
            let t = total_set (λ (u : HandView M). u.parts) (set views k b) other w spent_hand at' in
            let p = kept.parts in
            omega (arith, s, t, p));
        same = each_set (Same kept.opened) (set views k b) other spent_hand (λ some. absurd (omega arith))
            (each_set (Same kept.opened) views k b (λ _. o) kept.same);
        spent = each_set Spent (set views k b) other spent_hand (λ _. refl)
            (each_set Spent views k b (λ none. absurd (omega (arith, none, some_part))) kept.spent);
        balance = λ h.
            (let s = total_set (λ (u : HandView M). sum_by h u.held) views k v b at in
            let t = total_set (λ (u : HandView M). sum_by h u.held) (set views k b) other w spent_hand at' in
            let c = kept.balance h in
            omega (arith, s, t, c, sum_by-append h v.held w.held));
        theirs = kept.theirs;
      }

  -- ---- at the end

  pub are_all : (k : ℕ) (v : HandView M) → all_parts ≤ v.parts → Learns RelayRule k v (AreAll v)
  are_all k v all items views kept at h =
      let some_part : 0 < v.parts = omega (arith, all) in
      let most : parts_in views ≤ v.parts = (let p = kept.parts in omega (arith, p, all)) in
      let idle : (j : ℕ) (u : HandView M) → j ≢ k → IsAt views j u → u.parts ≡ 0 = others_idle views k v at most in
      let alone =
      total_alone (λ (u : HandView M). sum_by h u.held) views k v at
      (λ j u apart at'. ap (sum_by h) (kept.spent j u at' (idle j u apart at'))) in
      let b = kept.balance h in
      let o : weight_of h v.opened ≡ weight_of h kept.opened = ap (weight_of h) (kept.same k v at some_part) in
      omega (arith, alone, b, o)
