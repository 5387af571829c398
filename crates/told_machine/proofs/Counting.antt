-- How many entries each participant has made, with one more.
use Rattle.std.proofs.Common.{◌≡◌, ◌≢◌, ◌∙◌, ◌<◌, ◌≤◌, ◌+◌, ◌==◌, ℕ, suc, Bool, true, false, cond, List, [], ◌∷◌, filter, length, slice_index_or, slice_set, refl, ap, sym, subst, inl, inr, arith}
use Rattle.std.specs.Prelude.{replicate}
use Rattle.std.proofs.lemmas.List.{length-replicate, get_or-replicate, length-set, get_or-set_same, get_or-set_other}
use Rattle.std.proofs.lemmas.List.FromFn.{fill_by_all, length-map-range_with_len, get_or-map-range_with_len}
use Rattle.std.proofs.lemmas.List.Sums.{length-filter, count_by-le-length}
use Rattle.std.proofs.lemmas.Bool.{cases_Bool, cases_eq, eqb-true, eq-eqb}
use Rattle.caa_base.specs.declared.written.entry.Entry.{Entry}
use Rattle.place_plan.specs.Plans.PlanValue.{Plan}
use Rattle.told_machine.specs.Tickets.{made_by, made_by_each}

-- nobody has made any
pub none_made : (plan : Plan) (n : ℕ) → n ≡ length plan.participants → replicate n 0 ≡ made_by_each plan []
none_made plan n same =
    fill_by_all (made_by []) (replicate n 0) (length plan.participants) 0 (length-replicate n 0 ∙ same)
    (λ k l. get_or-replicate n k 0 0 (subst (λ m. k < m) (sym same) l))

-- the number of a participant stands at its place
pub count_at : (plan : Plan) (past : List Entry) (t : ℕ) → t < length plan.participants
    → slice_index_or (made_by_each plan past) t 0 ≡ made_by past t
count_at plan past t known = get_or-map-range_with_len (made_by past) 0 (length plan.participants) t t 0 known from_zero
  where
    from_zero : 0 + t ≡ t
    from_zero = omega arith

pub as_many : (plan : Plan) (past : List Entry) → length (made_by_each plan past) ≡ length plan.participants
as_many plan past = length-map-range_with_len (made_by past) 0 (length plan.participants)

-- no more than there are entries
pub few_made : (past : List Entry) (t : ℕ) → made_by past t ≤ length past
few_made past t =
    subst (λ n. n ≤ length past) (sym (length-filter (λ (e : Entry). e.by == t) past)) (count_by-le-length (λ (e : Entry). e.by == t) past)

-- one more that counts, or doesn't
counted : (past : List Entry) (e : Entry) (t : ℕ) (b : Bool) → (e.by == t) ≡ b
    → made_by (e ∷ past) t ≡ length (cond b (e ∷ filter (λ (x : Entry). x.by == t) past) (filter (λ (x : Entry). x.by == t) past))
counted past e t b same = ap (λ b. length (cond b (e ∷ filter (λ (x : Entry). x.by == t) past) (filter (λ (x : Entry). x.by == t) past))) same

own_more : (past : List Entry) (e : Entry) → made_by (e ∷ past) e.by ≡ made_by past e.by + 1
own_more past e = counted past e e.by true (eq-eqb e.by e.by refl) ∙ one_added (made_by past e.by)
  where
    one_added : (n : ℕ) → suc n ≡ n + 1
    one_added n = omega arith

other_same : (past : List Entry) (e : Entry) (t : ℕ) → t ≢ e.by → made_by (e ∷ past) t ≡ made_by past t
other_same past e t apart =
    elim (cases_Bool (e.by == t)) [ inl hers ↦ absurd (apart (sym (eqb-true e.by t hers))) | inr foreign ↦ counted past e t false foreign ]

-- its maker has made one more, and nobody else
pub one_more : (plan : Plan) (past : List Entry) (e : Entry) → e.by < length plan.participants
    → slice_set (made_by_each plan past) e.by (slice_index_or (made_by_each plan past) e.by 0 + 1) ≡ made_by_each plan (e ∷ past)
one_more plan past e known =
    fill_by_all (made_by (e ∷ past)) (slice_set before e.by more) n 0 (length-set before e.by more ∙ as_many plan past) each
  where
    n : ℕ
    n = length plan.participants

    before : List ℕ
    before = made_by_each plan past

    more : ℕ
    more = slice_index_or before e.by 0 + 1

    within : e.by < length before
    within = subst (λ m. e.by < m) (sym (as_many plan past)) known

    own : (k : ℕ) → k ≡ e.by → slice_index_or (slice_set before e.by more) k 0 ≡ made_by (e ∷ past) k
    own k same =
        subst (λ m. slice_index_or (slice_set before e.by more) m 0 ≡ made_by (e ∷ past) m) (sym same)
        (get_or-set_same before e.by more 0 within ∙ ap (λ m. m + 1) (count_at plan past e.by known) ∙ sym (own_more past e))

    other : (k : ℕ) → k < n → k ≢ e.by → slice_index_or (slice_set before e.by more) k 0 ≡ made_by (e ∷ past) k
    other k l apart = get_or-set_other before e.by k more 0 apart ∙ count_at plan past k l ∙ sym (other_same past e k apart)

    each : (k : ℕ) → k < n → slice_index_or (slice_set before e.by more) k 0 ≡ made_by (e ∷ past) k
    each k l = elim (cases_eq k e.by) [ inl same ↦ own k same | inr apart ↦ other k l apart ]

-- ---- the numbers that are kept

module _ (plan : Plan) (past : List Entry) (made : List ℕ) (kept : made ≡ made_by_each plan past) (t : ℕ) (known : t < length plan.participants) where
  pub is_kept : t < length made
  is_kept = subst (λ (xs : List ℕ). t < length xs) (sym kept) (subst (λ n. t < n) (sym (as_many plan past)) known)

  pub kept_at : slice_index_or made t 0 ≡ made_by past t
  kept_at = ap (λ (xs : List ℕ). slice_index_or xs t 0) kept ∙ count_at plan past t known

  pub is_few : slice_index_or made t 0 ≤ length past
  is_few = subst (λ n. n ≤ length past) (sym kept_at) (few_made past t)

-- the maker of an entry makes one more
pub kept_more : (plan : Plan) (past : List Entry) (made : List ℕ) (e : Entry) → made ≡ made_by_each plan past
    → e.by < length plan.participants → slice_set made e.by (slice_index_or made e.by 0 + 1) ≡ made_by_each plan (e ∷ past)
kept_more plan past made e kept known =
    ap (λ (xs : List ℕ). slice_set xs e.by (slice_index_or xs e.by 0 + 1)) kept ∙ one_more plan past e known
