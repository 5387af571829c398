-- What a well-named plan says of its names.
use Rattle.std.proofs.Common.{◌≡◌, ℕ, ◌+◌, ◌-◌, ◌<◌, ◌≤◌, ◌==◌, Bool, true, false, not, ◌&&◌, List, [], ◌∷◌, length, slice_index_or, bytes_eq, if◌then◌else◌, nat_le, nat_lt, refl, sym, ap, subst, zero-add, ◌∙◌, inl, inr, ◌⊎◌, arith, suc, zero}
use Rattle.std.specs.List.{list_all, range_with_len}
use Rattle.std.proofs.lemmas.List.FromFn.{get_or-range_with_len, length-range_with_len}
use Rattle.std.proofs.lemmas.List.{get_or_past}
use Rattle.std.proofs.lemmas.List.Sums.{list_all-from_AllPass}
use Rattle.std.proofs.lemmas.Slice.Eq.{bytes_eq-Decides}
use Rattle.std.proofs.lemmas.Bool.{and_left, and_parts, and_from, or_from, ne_eqb, cases_lt, ltb-true, cases_eq, eq-eqb, eqb-true, false≢true}
use Rattle.caa_base.specs.Written.Limits.{most_name_bytes}
use Rattle.caa_base.specs.Written.Names.{is_name_byte, begins_with_letter, is_name}
use Rattle.place_plan.specs.Plans.PlanValue.{Plan}
use Rattle.place_plan.specs.Plans.Places.{no_graph, graph_at, exception_name}
use Rattle.journal_text.specs.Texts.Naming.{index_among, watch_in, is_own_name, are_names, is_named_graph, is_own_watch, is_well_named}
use Rattle.journal_text.specs.Texts.Text.{participant_name, object_name, watched_object}
use Rattle.journal_text.specs.inner.Tokens.{is_gap, is_whole}

-- ---- a name has no gap

no_gap : (b : ℕ) → is_name_byte b ≡ true → not (is_gap b) ≡ true
no_gap b h = by (cases_eq b 32) (cases_eq b 10)
  where
    by : (b ≡ 32) ⊎ (b ≡ 32 → ⊥) → (b ≡ 10) ⊎ (b ≡ 10 → ⊥) → not (is_gap b) ≡ true
    by (inl e) q = absurd (false≢true (ap is_name_byte (sym e) ∙ h))
    by (inr m) (inl e) = absurd (false≢true (ap is_name_byte (sym e) ∙ h))
    by (inr m) (inr n) = ap not (or_from (b == 32) (b == 10) (ne_eqb b 32 m) (ne_eqb b 10 n))

whole-bytes : (word : List ℕ) → list_all is_name_byte word ≡ true → is_whole word ≡ true
whole-bytes [] h = refl
whole-bytes (b ∷ word) h = let p = and_parts (is_name_byte b) (list_all is_name_byte word) h in
    and_from _ _ (no_gap b p.0) (whole-bytes word p.1)

pub whole-name : (word : List ℕ) → is_name word ≡ true → is_whole word ≡ true
whole-name word h = whole-bytes word (and_parts (nat_le (length word) most_name_bytes) _ (and_parts (begins_with_letter word) _ h).1).1

-- ---- lists

-- what all pass, one passes
all_at : (test : ℕ → Bool) (xs : List ℕ) (i : ℕ) → list_all test xs ≡ true → i < length xs → test (slice_index_or xs i 0) ≡ true
all_at test [] i h l = absurd (omega arith)
all_at test (x ∷ xs) zero h l = (and_parts (test x) (list_all test xs) h).0
all_at test (x ∷ xs) (suc i) h l = all_at test xs i (and_parts (test x) (list_all test xs) h).1 (omega arith)

-- what all numbers below n pass
below : (test : ℕ → Bool) (n i : ℕ) → list_all test (range_with_len 0 n) ≡ true → i < n → test i ≡ true
below test n i h l =
    subst (λ k. test k ≡ true) (get_or-range_with_len 0 n i 0 l ∙ zero-add i)
    (all_at test (range_with_len 0 n) i h (omega (arith, length-range_with_len 0 n)))

-- ---- the names of a well-named plan

-- each name of the numbers below n leads to its number
pub record Named (name_of : ℕ → List ℕ) (n : ℕ) : Type 0 where
  pub own : (i : ℕ) → i < n → index_among name_of (name_of i) 0 n ≡ i
  pub whole : (i : ℕ) → i < n → is_whole (name_of i) ≡ true

own_parts : (name_of : ℕ → List ℕ) (n i : ℕ) → are_names name_of n ≡ true → i < n
    → (is_name (name_of i) ≡ true) × ((index_among name_of (name_of i) 0 n == i) ≡ true)
own_parts name_of n i h l =
    and_parts (is_name (name_of i)) (index_among name_of (name_of i) 0 n == i) (below (is_own_name name_of n) n i h l)

pub spelled_name : (name_of : ℕ → List ℕ) (n i : ℕ) → are_names name_of n ≡ true → i < n → is_name (name_of i) ≡ true
spelled_name name_of n i h l = (own_parts name_of n i h l).0

pub named : (name_of : ℕ → List ℕ) (n : ℕ) → are_names name_of n ≡ true → Named name_of n
named name_of n h =
    record {
      own = λ i l. eqb-true _ _ (own_parts name_of n i h l).1;
      whole = λ i l. whole-name (name_of i) (spelled_name name_of n i h l);
    }

-- the parts of the test
pub names_parts : (plan : Plan) → is_well_named plan ≡ true →
    (are_names (participant_name plan) (length plan.participants) ≡ true) × (are_names (object_name plan) (length plan.objects) ≡ true)
    × (list_all (is_named_graph plan) (range_with_len 0 (length plan.graphs)) ≡ true)
    × (list_all (is_own_watch plan) (range_with_len 0 (length plan.watches)) ≡ true)
names_parts plan h =
    let a = and_parts (are_names (participant_name plan) (length plan.participants)) _ h in
    let b = and_parts (are_names (object_name plan) (length plan.objects)) _ a.1 in
    let c = and_parts (list_all (is_named_graph plan) (range_with_len 0 (length plan.graphs))) _ b.1 in
    (a.0, b.0, c.0, c.1)

pub participants-named : (plan : Plan) → is_well_named plan ≡ true → Named (participant_name plan) (length plan.participants)
participants-named plan h = named (participant_name plan) (length plan.participants) (names_parts plan h).0

pub objects-named : (plan : Plan) → is_well_named plan ≡ true → Named (object_name plan) (length plan.objects)
objects-named plan h = named (object_name plan) (length plan.objects) (names_parts plan h).1

pub graph-named : (plan : Plan) (g : ℕ) → is_well_named plan ≡ true → g < length plan.graphs → is_named_graph plan g ≡ true
graph-named plan g h within = below (is_named_graph plan) (length plan.graphs) g (names_parts plan h).2 within

pub exceptions-named : (plan : Plan) (g : ℕ) → is_well_named plan ≡ true → Named (exception_name plan g) (graph_at plan g).count
exceptions-named plan g h = by (cases_lt g (length plan.graphs))
  where
    by : (g < length plan.graphs) ⊎ (length plan.graphs ≤ g) → Named (exception_name plan g) (graph_at plan g).count
    by (inl within) = named (exception_name plan g) (graph_at plan g).count (graph-named plan g h within)
    by (inr past) =
        let none : (graph_at plan g).count ≡ 0 = ap (λ row. row.graph.count) (get_or_past plan.graphs g no_graph past) in
        record { own = λ i l. absurd (omega (arith, none)); whole = λ i l. absurd (omega (arith, none)) }

watch-own : (plan : Plan) (w : ℕ) → is_well_named plan ≡ true → w < length plan.watches
    → (watched_object plan w < length plan.objects) × (watch_in plan (object_name plan (watched_object plan w)) ≡ w)
watch-own plan w h l =
    let p =
    and_parts (nat_lt (watched_object plan w) (length plan.objects))
    (watch_in plan (object_name plan (watched_object plan w)) == w)
    (below (is_own_watch plan) (length plan.watches) w (names_parts plan h).3 l) in
    (ltb-true _ _ p.0, eqb-true _ _ p.1)

pub watched-within : (plan : Plan) (w : ℕ) → is_well_named plan ≡ true → w < length plan.watches
    → watched_object plan w < length plan.objects
watched-within plan w h l = (watch-own plan w h l).0

pub watches-named : (plan : Plan) → is_well_named plan ≡ true → Named (λ w. object_name plan (watched_object plan w)) (length plan.watches)
watches-named plan h = record {
  own = λ w l. (watch-own plan w h l).1;
  whole = λ w l. (objects-named plan h).whole (watched_object plan w) (watched-within plan w h l);
}

-- ---- a test of all numbers, one after the other

pub range_pass : (test : ℕ → Bool) (from n : ℕ) → from < n → test from ≡ true
    → list_all test (range_with_len (from + 1) (n - (from + 1))) ≡ list_all test (range_with_len from (n - from))
range_pass test from n within pass =
    let left : n - from ≡ suc (n - (from + 1)) = omega arith in
    rw left (sym (ap (λ b. b && list_all test (range_with_len (from + 1) (n - (from + 1)))) pass))

pub range_fail : (test : ℕ → Bool) (from n : ℕ) → from < n → test from ≡ false → false ≡ list_all test (range_with_len from (n - from))
range_fail test from n within fail =
    let left : n - from ≡ suc (n - (from + 1)) = omega arith in
    rw left (sym (and_left (test from) _ fail))

-- ---- a number that is found has the name

pub index-named : (name_of : ℕ → List ℕ) (word : List ℕ) (from left : ℕ) → index_among name_of word from left < from + left
    → name_of (index_among name_of word from left) ≡ word
index-named name_of word from zero low = absurd (omega (arith, low))
index-named name_of word from (suc left) low =
    by (bytes_eq (name_of from) word) refl (λ less. index-named name_of word (suc from) left less) low
  where
    by : (b : Bool) → bytes_eq (name_of from) word ≡ b
        → (index_among name_of word (suc from) left < suc from + left → name_of (index_among name_of word (suc from) left) ≡ word)
        → (if b then from else index_among name_of word (suc from) left) < from + suc left
        → name_of (if b then from else index_among name_of word (suc from) left) ≡ word
    by true e later less = (bytes_eq-Decides (name_of from) word).0 e
    by false e later less = later (omega (arith, less))

-- ---- a plan whose names differ is well named

-- a word is the name of the first number alone that has it
index_among-first : (name_of : ℕ → List ℕ) (word : List ℕ) (i from left : ℕ) → from ≤ i → i < from + left
    → name_of i ≡ word → ((k : ℕ) → from ≤ k → k < i → name_of k ≡ word → ⊥) → index_among name_of word from left ≡ i
index_among-first name_of word i from zero low high is none = absurd (omega (arith, low, high))
index_among-first name_of word i from (suc left) low high is none =
    by (bytes_eq (name_of from) word) refl (cases_lt from i)
    (λ before. index_among-first name_of word i (suc from) left (omega (arith, before)) (omega (arith, high)) is
    (λ k l w. none k (omega (arith, l)) w))
  where
    by : (b : Bool) → bytes_eq (name_of from) word ≡ b → (from < i) ⊎ (i ≤ from)
        → (from < i → index_among name_of word (suc from) left ≡ i)
        → (if b then from else index_among name_of word (suc from) left) ≡ i
    by true e (inl before) later = absurd (none from (omega arith) before ((bytes_eq-Decides (name_of from) word).0 e))
    by true e (inr here) later = omega (arith, low, here)
    by false e (inl before) later = later before
    by false e (inr here) later =
        let same : from ≡ i = omega (arith, low, here) in
        absurd (false≢true (sym e ∙ (bytes_eq-Decides (name_of from) word).1 (ap name_of same ∙ is)))

-- what each number below n passes, all pass
pub all_below_pass : (test : ℕ → Bool) (n : ℕ) → ((i : ℕ) → i < n → test i ≡ true) → list_all test (range_with_len 0 n) ≡ true
all_below_pass test n h = list_all-from_AllPass test (range_with_len 0 n) (λ i d l.
    let within : i < n = omega (arith, l, length-range_with_len 0 n) in
    subst (λ k. test k ≡ true) (sym (get_or-range_with_len 0 n i d within ∙ zero-add i)) (h i within))

-- names of which no two are the same lead to their numbers
pub own_index : (name_of : ℕ → List ℕ) (n i : ℕ) → i < n → ((k : ℕ) → k < i → name_of k ≡ name_of i → ⊥)
    → (index_among name_of (name_of i) 0 n == i) ≡ true
own_index name_of n i l differ =
    eq-eqb _ _ (index_among-first name_of (name_of i) i 0 n (omega arith) (omega (arith, l)) refl
    (λ k low w. differ k w))

pub are_names-from : (name_of : ℕ → List ℕ) (n : ℕ) → ((i : ℕ) → i < n → is_name (name_of i) ≡ true)
    → ((k i : ℕ) → k < i → i < n → name_of k ≡ name_of i → ⊥) → are_names name_of n ≡ true
are_names-from name_of n spelled differ =
    all_below_pass (is_own_name name_of n) n
    (λ i l. and_from _ _ (spelled i l) (own_index name_of n i l (λ k w. differ k i w l)))
