-- What a worker knows of the seats that it takes and keeps.
use Rattle.std.proofs.Common.{◌≡◌, ℕ, ◌<◌, List, [], ◌∷◌, ◌++◌, length, sym, ap, subst, slice_get, Some, All, Contains, rules}
use native.Mathlib.Omega.{arith}
use Rattle.std.specs.List.{sum_by}
use Rattle.std.proofs.lemmas.List.Elements.{Contains-push}
use Rattle.std.proofs.lemmas.List.Sums.{sum_by_push}
use Rattle.atomic_table.specs.Seated.{TableId}
use Rattle.action_manager.specs.declared.seat.Seat.{Seat}
use Rattle.action_manager.specs.declared.lock_view.Terms.{Terms}
use Rattle.action_manager.specs.Seats.{IsSeatOf, participant_of}
use Rattle.action_manager.proofs.Beside.{both_beside, beside_opened}
use Rattle.worker_pool.specs.SeatLists.{without}
use Rattle.worker_pool.specs.Relays.{IsOfTheirs, weight_of}
use Rattle.worker_pool.proofs.Weights.{without_weighs, ones}

module _ {M : Type 0} where
  head_of : (x : Seat M) (more : List (Seat M)) → slice_get (x ∷ more) 0 ≡ Some x
  head_of x more = search rules

  first_is : (x first : Seat M) (more : List (Seat M)) → slice_get (x ∷ more) 0 ≡ Some first → x ≡ first
  first_is x first more at = search rules

  -- what holds of all holds of the first
  pub first_in : (P : Seat M → Type 0) (seats : List (Seat M)) (first : Seat M) → slice_get seats 0 ≡ Some first → All P seats → P first
  first_in P [] first at all = absurd cc
  first_in P (x ∷ xs) first at all = subst P (first_is x first xs at) (all 0 x (omega arith))

module _ {M : Type 0} (table : TableId) (terms : Terms) where
  -- what is of the manager of the opened seats is of this manager
  pub theirs_in : (opened : List (Seat M)) (seat : Seat M) → 0 < length opened → All (λ s. IsSeatOf table terms s) opened
      → IsOfTheirs opened seat → IsSeatOf table terms seat
  theirs_in [] seat some all one = absurd (omega (arith, some))
  theirs_in (x ∷ xs) seat some all one = beside_opened table terms x seat (all 0 x (omega arith)) (one x (head_of x xs))

  -- the other way round
  pub in_theirs : (opened : List (Seat M)) (seat : Seat M) → All (λ s. IsSeatOf table terms s) opened
      → IsSeatOf table terms seat → IsOfTheirs opened seat
  in_theirs opened seat all mine first at = both_beside table terms first seat (first_in (IsSeatOf table terms) opened first at all) mine

-- a seat was taken and put back
pub put_back : (h : ℕ → ℕ) (x p : ℕ) (held taken left : List ℕ) (total : ℕ) → x ≡ p → taken ≡ held ++ p ∷ []
    → left ≡ without x taken → sum_by h held ≡ total → sum_by h left ≡ total
put_back h x p held taken left total same took put e =
    let has : Contains taken x =
    subst (λ l. Contains l x) (sym took) (subst (λ y. Contains (held ++ y ∷ []) x) same (Contains-push held x)) in
    let w = without_weighs h x taken has in
    let t : sum_by h taken ≡ sum_by h (held ++ p ∷ []) = ap (sum_by h) took in
    let l : sum_by h left ≡ sum_by h (without x taken) = ap (sum_by h) put in
    let s : h x ≡ h p = ap h same in
    omega (arith, w, t, l, s, e, sum_by_push h held p)

-- and kept
pub keep_one : {M : Type 0} (h : ℕ → ℕ) (seat : Seat M) (p : ℕ) (held taken : List ℕ) (kept more : List (Seat M))
    → participant_of seat ≡ p → taken ≡ held ++ p ∷ [] → more ≡ kept ++ seat ∷ []
    → sum_by h held ≡ weight_of h kept → sum_by h taken ≡ weight_of h more
keep_one {M = M} h seat p held taken kept more same took pushed e =
    let t : sum_by h taken ≡ sum_by h (held ++ p ∷ []) = ap (sum_by h) took in
    let m : weight_of h more ≡ weight_of h (kept ++ seat ∷ []) = ap (weight_of h) pushed in
    let s : h (participant_of seat) ≡ h p = ap h same in
    omega (arith, t, m, s, e, sum_by_push h held p, sum_by_push (λ (x : Seat M). h (participant_of x)) kept seat)

-- as many are held as are kept
pub as_many : {M : Type 0} (held : List ℕ) (kept : List (Seat M)) → ((h : ℕ → ℕ) → sum_by h held ≡ weight_of h kept)
    → length held ≡ length kept
as_many held kept e = let one = e (λ _. 1) in omega (arith, one, ones held, ones kept)
