-- Lemmas on lists of names.
use Rattle.std.proofs.Common.{◌≡◌, ℕ, ◌==◌, ◌+◌, ◌<◌, ◌≤◌, Bool, true, false, cond, nat_lt, nat_eq, not, ◌&&◌, ◌||◌, List, [], ◌∷◌, ◌++◌, length, position, Some, None, take, get_or, add-one, refl, sym, ap, ◌∙◌, arith, zero, suc, inl, inr}
use Rattle.std.proofs.lemmas.Bool.{eqb-true, eq-eqb, ne_eqb, false≢true, cases_Bool, lt-ltb, ltb-false, and_parts, and_from, or_parts, or_from, not-true, false_from_ne_true}
use Rattle.std.proofs.lemmas.List.{take_all}
use Rattle.std.proofs.lemmas.List.Folds.{list_any-append}
use Rattle.std.proofs.lemmas.List.Recursion.{is_position_or_len}
use Rattle.std.proofs.lemmas.Option.{cond_some}
use Rattle.std.proofs.Math.Seq.{take-suc}
use Rattle.std.specs.List.{list_any, position_or_len}
use Rattle.caa_base.specs.Written.Lists.{member, index_of}
use Rattle.caa_base.proofs.ListLemmas.{one_more_each, index_within}
use Rattle.place_plan.specs.Drafts.DraftRules.{all_differ}
use Rattle.script_checker.specs.Numbers.{is_among}

pub same_both_ways : (x y : ℕ) → (x == y) ≡ (y == x)
same_both_ways x y = elim (cases_Bool (y == x)) [
  | inl e ↦ eq-eqb x y (sym (eqb-true y x e)) ∙ sym e
  | inr e ↦ ne_eqb x y (λ s. false≢true (sym e ∙ eq-eqb y x (sym s))) ∙ sym e
]

-- a name is among these just where it is a member
pub among_is_member : (name : ℕ) (names : List ℕ) → is_among names name ≡ member name names
among_is_member name [] = refl
among_is_member name (x ∷ xs) = by (x == name) (among_is_member name xs)
  where
    by : (b : Bool) → is_among xs name ≡ member name xs
        → nat_lt (cond b 0 (suc (index_of name xs))) (suc (length xs)) ≡ (b || member name xs)
    by true h = lt-ltb 0 (suc (length xs)) (omega arith)
    by false h = one_more_each (index_of name xs) (length xs) ∙ h

-- ---- names in a set

-- one that isn't among the names is no key
pub no_key : (name : ℕ) (names : List ℕ) → is_among names name ≡ false → list_any (nat_eq name) names ≡ false
no_key name names h = other_way names ∙ sym (among_is_member name names) ∙ h
  where
    other_way : (names : List ℕ) → list_any (nat_eq name) names ≡ member name names
    other_way [] = refl
    other_way (x ∷ xs) = rw (same_both_ways name x, other_way xs) refl

-- so it goes to the end
pub key_added : (name : ℕ) (names : List ℕ) → is_among names name ≡ false
    → cond (list_any (nat_eq name) names) names (names ++ name ∷ []) ≡ names ++ name ∷ []
key_added name names h = rw (no_key name names h) refl

index_is_position : (name : ℕ) (names : List ℕ) → index_of name names ≡ position_or_len (nat_eq name) names
index_is_position name names =
    is_position_or_len (index_of name) (nat_eq name) refl
    (λ n l. ap (λ b. cond b 0 (suc (index_of name l))) (same_both_ways n name) ∙ ap (λ k. cond (nat_eq name n) 0 k) (omega arith))
    names

-- the place of a key is that of the name
pub key_found : (name : ℕ) (names : List ℕ) (place : ℕ) → position (nat_eq name) names ≡ Some place → place ≡ index_of name names
key_found name names place h =
    let i = position_or_len (nat_eq name) names in
    sym (cond_some (nat_lt i (length names)) i place h).1 ∙ sym (index_is_position name names)

-- a name that is no key counts by how many there are
pub key_absent : (name : ℕ) (names : List ℕ) → position (nat_eq name) names ≡ None → length names ≡ index_of name names
key_absent name names h =
    let i = position_or_len (nat_eq name) names in
    let past = ltb-false i (length names) (none_is_past (nat_lt i (length names)) i h) in
    omega (arith, past, index_is_position name names, index_within name names)
  where
    none_is_past : (b : Bool) (i : ℕ) → cond b (Some i) None ≡ None → b ≡ false
    none_is_past true i e = cc
    none_is_past false i e = refl

-- ---- numbers that differ

member_take : (n k : ℕ) (xs : List ℕ) → member n xs ≡ false → member n (take k xs) ≡ false
member_take n zero xs h = refl
member_take n (suc k) [] h = refl
member_take n (suc k) (x ∷ xs) h = let p = or_parts (x == n) (member n xs) h in or_from _ _ p.0 (member_take n k xs p.1)

differ_take : (k : ℕ) (xs : List ℕ) → all_differ xs ≡ true → all_differ (take k xs) ≡ true
differ_take zero xs h = refl
differ_take (suc k) [] h = refl
differ_take (suc k) (x ∷ xs) h =
    let p = and_parts (not (member x xs)) (all_differ xs) h in
    and_from _ _ (ap not (member_take x k xs (not-true _ p.0))) (differ_take k xs p.1)

-- one more differs where it isn't among those that do
differ_with_one : (xs : List ℕ) (x : ℕ) → all_differ (xs ++ x ∷ []) ≡ (all_differ xs && not (member x xs))
differ_with_one [] x = refl
differ_with_one (y ∷ ys) x =
    rw (list_any-append (λ z. z == y) ys (x ∷ []), same_both_ways x y, differ_with_one ys x)
    (in_order (member y ys) (y == x) (all_differ ys) (member x ys))
  where
    in_order : (a b c d : Bool) → (not (a || (b || false)) && (c && not d)) ≡ ((not a && c) && not (b || d))
    in_order true b c d = refl
    in_order false true true d = refl
    in_order false true false d = refl
    in_order false false c d = refl

module _ (xs : List ℕ) (i d : ℕ) (within : i < length xs) where
  pub one_more : take (i + 1) xs ≡ take i xs ++ get_or xs i d ∷ []
  one_more = rw add-one (take-suc xs i d within)

  -- the next of some that all differ isn't among those before it
  pub fresh_next : all_differ xs ≡ true → is_among (take i xs) (get_or xs i d) ≡ false
  fresh_next h =
      let all = sym (differ_with_one (take i xs) (get_or xs i d)) ∙ ap all_differ (sym one_more) ∙ differ_take (i + 1) xs h in
      among_is_member (get_or xs i d) (take i xs) ∙ not-true _
      (and_parts (all_differ (take i xs)) (not (member (get_or xs i d) (take i xs))) all).1

  -- where it is among them, not all differ
  pub next_again : is_among (take i xs) (get_or xs i d) ≡ true → all_differ xs ≡ false
  next_again h = false_from_ne_true (all_differ xs) (λ all. false≢true (sym (fresh_next all) ∙ h))

  -- and where it isn't, one more differs
  pub next_differs : is_among (take i xs) (get_or xs i d) ≡ false → all_differ (take i xs) ≡ true → all_differ (take (i + 1) xs) ≡ true
  next_differs h all =
      ap all_differ one_more ∙ differ_with_one (take i xs) (get_or xs i d) ∙ and_from _ _ all
      (ap not (sym (among_is_member (get_or xs i d) (take i xs)) ∙ h))

-- all of some that have been gone over differ
pub all_gone_over : (xs : List ℕ) (n : ℕ) → length xs ≤ n → all_differ (take n xs) ≡ true → all_differ xs ≡ true
all_gone_over xs n l h = sym (ap all_differ (take_all n xs l)) ∙ h
