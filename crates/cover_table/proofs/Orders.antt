-- Least covers in an order, and the first pair without one.
use Rattle.std.proofs.Common.{◌≡◌, ◌<◌, ◌+◌, ℕ, Bool, true, false, ◌&&◌, inl, inr, List, [], ◌∷◌, length, slice_index, slice_index_or, slice_set, arith, refl, All, ◌++◌, sym, ◌∙◌, ap, subst, Ok, Err, Result, MatchResult, ◌↔◌}
use Rattle.std.specs.Prelude.{IsErrOf}
use Rattle.std.proofs.lemmas.List.{get_or-set_same, get_or-set_other}
use Rattle.std.proofs.lemmas.List.Elements.{All-head, All-tail}
use Rattle.std.proofs.lemmas.List.Folds.{list_all-append}
use Rattle.std.proofs.lemmas.Bool.{and_parts, and_from, cases_order, cases_eq}
use Rattle.cover_table.specs.Cover.{CoverOrder, covers, covers_each, IsLeastCover, HasLeastCover, IsOrder, IsSound, IsFirstWithoutLeast, SetsHaveLeastCovers}
use Rattle.cover_table.specs.declared.order.NoLeast.{NoLeast}

and_swapped : (p q : Bool) → (p && (q && true)) ≡ (q && (p && true))
and_swapped true true = refl
and_swapped true false = refl
and_swapped false true = refl
and_swapped false false = refl

-- to cover two is to cover them in the other order
pub covers_each-swapped : (order : CoverOrder) (x a b : ℕ) → covers_each order x (a ∷ b ∷ []) ≡ covers_each order x (b ∷ a ∷ [])
covers_each-swapped order x a b = and_swapped (covers order x a) (covers order x b)

pub least-swapped : (order : CoverOrder) (a b x : ℕ) → IsLeastCover order (a ∷ b ∷ []) x → IsLeastCover order (b ∷ a ∷ []) x
least-swapped order a b x h = record {
  in_range = h.in_range;
  above = covers_each-swapped order x b a ∙ h.above;
  least = λ y lt each. h.least y lt (covers_each-swapped order y a b ∙ each);
}

-- each number is the least cover of itself and what it covers
pub least-covered : (order : CoverOrder) (a b : ℕ) → IsOrder order → a < order.count → covers order a b ≡ true
    → IsLeastCover order (a ∷ b ∷ []) a
least-covered order a b h lt over = record {
  in_range = lt;
  above = and_from _ _ (h.reflexive a lt) (and_from _ _ over refl);
  least = λ y below each. (and_parts (covers order y a) (covers order y b && true) each).0;
}

pub least-self : (order : CoverOrder) (a : ℕ) → IsOrder order → a < order.count → IsLeastCover order (a ∷ a ∷ []) a
least-self order a h lt = least-covered order a a h lt (h.reflexive a lt)

pub least-one : (order : CoverOrder) (a : ℕ) → IsOrder order → a < order.count → IsLeastCover order (a ∷ []) a
least-one order a h lt = record {
  in_range = lt;
  above = and_from _ _ (h.reflexive a lt) refl;
  least = λ y below each. (and_parts (covers order y a) true each).0;
}

-- where all rows before a hold, the first failure in row a is the first pair without a least cover
pub first_from_row : (order : CoverOrder) (a b : ℕ) → IsOrder order → a < order.count → b < order.count
    → ((c d : ℕ) → c < a → d < order.count → HasLeastCover order (c ∷ d ∷ [])) → ¬ (HasLeastCover order (a ∷ b ∷ []))
    → ((d : ℕ) → d < b → HasLeastCover order (a ∷ d ∷ [])) → IsFirstWithoutLeast order a b
first_from_row order a b h a_in b_in before without here = record {
  ascending = elim (cases_order a b) [
    | inl same ↦ absurd (without (subst (λ e. HasLeastCover order (a ∷ e ∷ [])) same (a, least-self order a h a_in)))
    | inr apart ↦ elim apart [
      | inl less ↦ less
      | inr more ↦ let found = before b a more a_in in absurd (without (found.0, least-swapped order b a found.0 found.1))
    ]
  ];
  in_range = b_in;
  without = without;
  earlier = λ c d less d_in first. elim first [
    | inl row ↦ before c d row d_in
    | inr column ↦ subst (λ r. HasLeastCover order (r ∷ d ∷ [])) (sym column.0) (here d column.1)
  ];
}

-- there is one first pair at most
pub first-same : (order : CoverOrder) (a b c d : ℕ) → IsFirstWithoutLeast order a b → IsFirstWithoutLeast order c d → (a ≡ c) × (b ≡ d)
first-same order a b c d h k =
    elim (cases_order a c) [
      | inl rows ↦ elim (cases_order b d) [
        | inl columns ↦ (rows, columns)
        | inr apart ↦ elim apart [
          | inl less ↦ absurd (h.without (k.earlier a b h.ascending h.in_range (inr (rows, less))))
          | inr more ↦ absurd (k.without (h.earlier c d k.ascending k.in_range (inr (sym rows, more))))
        ]
      ]
      | inr apart ↦ elim apart [
        | inl less ↦ absurd (h.without (k.earlier a b h.ascending h.in_range (inl less)))
        | inr more ↦ absurd (k.without (h.earlier c d k.ascending k.in_range (inl more)))
      ]
    ]

-- a sound order has no first pair
pub sound_has_none : (order : CoverOrder) (a b : ℕ) → IsSound order → IsFirstWithoutLeast order a b → ⊥
sound_has_none order a b sound h =
    let less = h.ascending in
    let below = h.in_range in
    h.without (sound.pairs a b (omega arith) below)

-- an answer that is right names a pair exactly where it is the first without a least cover
pub refused_at : {T : Type 0} (order : CoverOrder) (answer : Result T NoLeast)
    → MatchResult answer (λ _. IsSound order) (λ e. IsFirstWithoutLeast order e.a e.b) → (a b : ℕ)
    → IsErrOf answer (record { a = a; b = b }) ↔ IsFirstWithoutLeast order a b
refused_at order (Ok t) sound a b = (λ e. absurd cc, λ first. absurd (sound_has_none order a b sound first))
refused_at order (Err e) first a b = (
  λ same. let p : e ≡ record { a = a; b = b } = cc in subst (λ (f : NoLeast). IsFirstWithoutLeast order f.a f.b) p first,
  λ other. let p = first-same order e.a e.b a b first other in
      let pair : ℕ → ℕ → NoLeast = λ x y. record { a = x; b = y } in
      ap Err (ap (λ x. pair x e.b) p.0 ∙ ap (pair a) p.1),
)

-- one more row of least covers
pub joins_more : (order : CoverOrder) (joins : List (List ℕ)) (n : ℕ) (row : List ℕ) → n < length joins
    → ((c d : ℕ) → c < n → d < order.count
    → IsLeastCover order (c ∷ d ∷ []) (slice_index (slice_index_or joins c []) d))
    → ((d : ℕ) → d < order.count → IsLeastCover order (n ∷ d ∷ []) (slice_index row d)) → (c d : ℕ) → c < n + 1
    → d < order.count → IsLeastCover order (c ∷ d ∷ []) (slice_index (slice_index_or (slice_set joins n row) c []) d)
joins_more order joins n row fits before here c d c_in d_in =
    elim (cases_eq c n) [
      | inl same ↦
          let e : slice_index_or (slice_set joins n row) c [] ≡ row =
          subst (λ k. slice_index_or (slice_set joins n row) k [] ≡ row) (sym same)
          (get_or-set_same joins n row [] fits) in
          let found : IsLeastCover order (c ∷ d ∷ []) (slice_index row d) =
          subst (λ k. IsLeastCover order (k ∷ d ∷ []) (slice_index row d)) (sym same) (here d d_in) in
          subst (λ r. IsLeastCover order (c ∷ d ∷ []) (slice_index r d)) (sym e) found
      | inr apart ↦
          let e = get_or-set_other joins n c row [] apart in
          subst (λ r. IsLeastCover order (c ∷ d ∷ []) (slice_index r d)) (sym e) (before c d (omega arith) d_in)
    ]

-- what covers one covers all that it covers
pub covers_each-through : (order : CoverOrder) (x y : ℕ) (xs : List ℕ) → IsOrder order → x < order.count
    → y < order.count → All (λ m. m < order.count) xs → covers order x y ≡ true → covers_each order y xs ≡ true
    → covers_each order x xs ≡ true
covers_each-through order x y [] h x_in y_in in_range xy each = refl
covers_each-through order x y (m ∷ xs) h x_in y_in in_range xy each =
    let parts = and_parts (covers order y m) (covers_each order y xs) each in
    and_from _ _ (h.transitive x y m x_in y_in (All-head (λ m. m < order.count) m xs in_range) xy parts.0)
    (covers_each-through order x y xs h x_in y_in (All-tail (λ m. m < order.count) m xs in_range) xy parts.1)

-- the least cover of a list and one more: that of the list's least cover and the one more
pub least_more : (order : CoverOrder) (xs : List ℕ) (x y z : ℕ) → IsOrder order → All (λ m. m < order.count) xs
    → IsLeastCover order xs x → IsLeastCover order (x ∷ y ∷ []) z → IsLeastCover order (xs ++ y ∷ []) z
least_more order xs x y z h in_range before both =
    let parts = and_parts (covers order z x) (covers order z y && true) both.above in
    let last = and_parts (covers order z y) true parts.1 in
    record {
      in_range = both.in_range;
      above =
          list_all-append (covers order z) xs (y ∷ [])
          ∙ and_from _ _ (covers_each-through order z x xs h both.in_range before.in_range in_range parts.0
          before.above) (and_from _ _ last.0 refl);
      least = λ w w_in each.
          let split =
          and_parts (covers_each order w xs) (covers order w y && true)
          (sym (list_all-append (covers order w) xs (y ∷ [])) ∙ each) in
          both.least w w_in (and_from _ _ (before.least w w_in split.0) split.1);
    }

-- the least cover of one more and a list: that of the one more and the list's least cover
pub least_cons : (order : CoverOrder) (x : ℕ) (xs : List ℕ) (y z : ℕ) → IsOrder order → All (λ m. m < order.count) xs
    → IsLeastCover order xs y → IsLeastCover order (x ∷ y ∷ []) z → IsLeastCover order (x ∷ xs) z
least_cons order x xs y z h in_range before both =
    let parts = and_parts (covers order z x) (covers order z y && true) both.above in
    let last = and_parts (covers order z y) true parts.1 in
    record {
      in_range = both.in_range;
      above = and_from _ _ parts.0 (covers_each-through order z y xs h both.in_range before.in_range in_range last.0 before.above);
      least = λ w w_in each.
          let split = and_parts (covers order w x) (covers_each order w xs) each in
          both.least w w_in (and_from _ _ split.0 (and_from _ _ (before.least w w_in split.1) refl));
    }

-- where each two have a least cover, each list that isn't empty has one
pub sound_sets : (order : CoverOrder) → IsSound order → SetsHaveLeastCovers order
sound_sets order sound [] some in_range = absurd (omega arith)
sound_sets order sound (x ∷ []) some in_range = (x, least-one order x sound.is_order (All-head (λ m. m < order.count) x [] in_range))
sound_sets order sound (x ∷ y ∷ xs) some in_range =
    let others = All-tail (λ m. m < order.count) x (y ∷ xs) in_range in
    let before = sound_sets order sound (y ∷ xs) (omega arith) others in
    let joined = sound.pairs x before.0 (All-head (λ m. m < order.count) x (y ∷ xs) in_range) before.1.in_range in
    (joined.0, least_cons order x (y ∷ xs) before.0 joined.0 sound.is_order others before.1 joined.1)
