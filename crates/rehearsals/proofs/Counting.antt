-- What counting a fact changes.
use Rattle.std.proofs.Common.{◌≡◌, ℕ, ℤ, zero, suc, ◌+◌, ◌<◌, ◌≤◌, ◌==◌, ◌&&◌, ◌||◌, Bool, true, false, not, if◌then◌else◌, List, [], ◌∷◌, ◌++◌, length, take, get_or, arith, refl, sym, ap, ◌∙◌, subst, inl, inr, true≢false, add-one, eq-eqb}
use Rattle.std.specs.Prelude.{slice_set}
use Rattle.std.specs.List.{list_any}
use Rattle.std.specs.Ordering.{int_eq}
use Rattle.std.proofs.lemmas.Bool.{and_parts, eqb-true, false_from_ne_true, false≢true}
use Rattle.std.proofs.lemmas.Bool.Decides.{Decides-int_eq}
use Rattle.std.proofs.lemmas.List.{take_more}
use Rattle.std.proofs.lemmas.List.Folds.{list_any-append}
use Rattle.rehearsals.specs.declared.facts.Fact.{Fact}
use Rattle.rehearsals.specs.declared.keys.Key.{Key}
use Rattle.rehearsals.specs.declared.tally.Row.{Row}
use Rattle.rehearsals.specs.Tallies.{key_of, is_same, is_same_key, is_shown, count_of, last_of, one_if, AreWithin}
use Rattle.rehearsals.specs.inner.Counting.{fresh, bumped, counted, NoneAmong}

-- whoever is the same as one of two that are the same is the same as the other
same_key : (a b c : Key) → is_same_key a b ≡ true → is_same_key c a ≡ is_same_key c b
same_key a b c w =
    let p = and_parts (a.kind == b.kind) _ w in
    let q = and_parts (a.of == b.of) _ p.1 in
    let r = and_parts (a.more == b.more) _ q.1 in
    let s = and_parts (a.what == b.what) _ r.1 in
    let kind = eqb-true a.kind b.kind p.0 in
    let of = eqb-true a.of b.of q.0 in
    let more = eqb-true a.more b.more r.0 in
    let what = eqb-true a.what b.what s.0 in
    let value = (Decides-int_eq a.value b.value).0 s.1 in
    ap (λ x. (c.kind == x) && ((c.of == a.of) && ((c.more == a.more) && ((c.what == a.what) && int_eq c.value a.value)))) kind
    ∙ ap (λ x. (c.kind == b.kind) && ((c.of == x) && ((c.more == a.more) && ((c.what == a.what) && int_eq c.value a.value)))) of
    ∙ ap (λ x. (c.kind == b.kind) && ((c.of == b.of) && ((c.more == x) && ((c.what == a.what) && int_eq c.value a.value)))) more
    ∙ ap (λ x. (c.kind == b.kind) && ((c.of == b.of) && ((c.more == b.more) && ((c.what == x) && int_eq c.value a.value)))) what
    ∙ ap (λ x. (c.kind == b.kind) && ((c.of == b.of) && ((c.more == b.more) && ((c.what == b.what) && int_eq c.value x)))) value

same_fact : (a b c : Fact) → is_same a b ≡ true → is_same c a ≡ is_same c b
same_fact a b c w = same_key (key_of a) (key_of b) (key_of c) w

-- what is the same as one of two that are the same, is the same as the other
left_key : (a b c : Key) → is_same_key a b ≡ true → is_same_key a c ≡ is_same_key b c
left_key a b c w =
    let p = and_parts (a.kind == b.kind) _ w in
    let q = and_parts (a.of == b.of) _ p.1 in
    let r = and_parts (a.more == b.more) _ q.1 in
    let s = and_parts (a.what == b.what) _ r.1 in
    let kind = eqb-true a.kind b.kind p.0 in
    let of = eqb-true a.of b.of q.0 in
    let more = eqb-true a.more b.more r.0 in
    let what = eqb-true a.what b.what s.0 in
    let value = (Decides-int_eq a.value b.value).0 s.1 in
    ap (λ x. (x == c.kind) && ((a.of == c.of) && ((a.more == c.more) && ((a.what == c.what) && int_eq a.value c.value)))) kind
    ∙ ap (λ x. (b.kind == c.kind) && ((x == c.of) && ((a.more == c.more) && ((a.what == c.what) && int_eq a.value c.value)))) of
    ∙ ap (λ x. (b.kind == c.kind) && ((b.of == c.of) && ((x == c.more) && ((a.what == c.what) && int_eq a.value c.value)))) more
    ∙ ap (λ x. (b.kind == c.kind) && ((b.of == c.of) && ((b.more == c.more) && ((x == c.what) && int_eq a.value c.value)))) what
    ∙ ap (λ x. (b.kind == c.kind) && ((b.of == c.of) && ((b.more == c.more) && ((b.what == c.what) && int_eq x c.value)))) value

left_fact : (a b c : Fact) → is_same a b ≡ true → is_same a c ≡ is_same b c
left_fact a b c w = left_key (key_of a) (key_of b) (key_of c) w

-- ---- the rows that the code comes to

pub none_more : (rows : List Row) (i : ℕ) (f : Fact) (d : Row) → i < length rows → NoneAmong i rows f
    → is_same f (get_or rows i d).fact ≡ false → NoneAmong (suc i) rows f
none_more [] i f d low before other = absurd (omega (arith, low))
none_more (r ∷ rs) zero f d low before other = (other, tt)
none_more (r ∷ rs) (suc i) f d low before other = (before.0, none_more rs i f d (omega (arith, low)) before.1 other)

-- where the first row of a fact is bumped
pub set_is_counted : (rows : List Row) (i n : ℕ) (f : Fact) (d : Row) → i < length rows → NoneAmong i rows f
    → is_same f (get_or rows i d).fact ≡ true → slice_set rows i (bumped n (get_or rows i d)) ≡ counted n f rows
set_is_counted [] i n f d low before same = absurd (omega (arith, low))
set_is_counted (r ∷ rs) zero n f d low before same = sym (ap (λ b. if b then bumped n r ∷ rs else r ∷ counted n f rs) same)
set_is_counted (r ∷ rs) (suc i) n f d low before same =
    ap (λ xs. r ∷ xs) (set_is_counted rs i n f d (omega (arith, low)) before.1 same)
    ∙ sym (ap (λ b. if b then bumped n r ∷ rs else r ∷ counted n f rs) before.0)

-- where no row is of a fact, one is added
pub added_is_counted : (rows : List Row) (n : ℕ) (f : Fact) → NoneAmong (length rows) rows f → rows ++ fresh n f ∷ [] ≡ counted n f rows
added_is_counted [] n f none = refl
added_is_counted (r ∷ rs) n f none =
    ap (λ xs. r ∷ xs) (added_is_counted rs n f none.1) ∙ sym (ap (λ b. if b then bumped n r ∷ rs else r ∷ counted n f rs) none.0)

-- ---- a row that is bumped

abbrev bumped_by : Bool → ℕ → Row → Row
bumped_by b n r = if b then r else record { fact = r.fact; count = r.count + 1; first = r.first; last = n }

bumped_count : (b : Bool) (n : ℕ) (r : Row) → (bumped_by b n r).count ≡ r.count + one_if (not b)
bumped_count true n r = omega arith
bumped_count false n r = refl

bumped_last : (b : Bool) (n : ℕ) (r : Row) → (r.last == n) ≡ b → (bumped_by b n r).last ≡ n
bumped_last true n r is = eqb-true r.last n is
bumped_last false n r is = refl

bumped_fact : (b : Bool) (n : ℕ) (r : Row) → (bumped_by b n r).fact ≡ r.fact
bumped_fact true n r = refl
bumped_fact false n r = refl

bumped_within : (b : Bool) (n : ℕ) (r : Row) → (r.last == n) ≡ b → r.count ≤ r.last → r.last ≤ n
    → ((bumped_by b n r).count ≤ (bumped_by b n r).last) × ((bumped_by b n r).last ≤ n)
bumped_within true n r is few low = (few, low)
bumped_within false n r is few low =
    let other : r.last ≡ n → ⊥ = λ same. false≢true (sym is ∙ eq-eqb r.last n same) in
    (grind (arith, few, low, other), omega arith)

-- ---- what the rows then say

-- whether a fact that is counted is counted for the first time for this journal
abbrev is_news : ℕ → Fact → Fact → List Row → Bool
is_news n f k rows = is_same f k && not (last_of rows f == n)

abbrev counts_of : Bool → ℕ → ℕ → ℕ
counts_of b x y = if b then x else y

grows_here : (b : Bool) (n : ℕ) (r : Row) (rest : ℕ) (other : ℕ)
    → counts_of b (bumped n r).count rest ≡ counts_of b r.count rest + one_if (b && not (counts_of b r.last other == n))
grows_here true n r rest other = bumped_count (r.last == n) n r
grows_here false n r rest other = omega arith

kept_here : (e : Bool) (n last : ℕ) (count : ℕ) → e ≡ false → count ≡ count + one_if (e && not (last == n))
kept_here true n last count is = absurd (true≢false is)
kept_here false n last count is = omega arith

first_count : (e : Bool) (n : ℕ) → (0 == n) ≡ false → counts_of e 1 0 ≡ 0 + one_if (e && not (0 == n))
first_count true n other = ap (λ b. 0 + one_if (true && not b)) (sym other)
first_count false n other = refl

module _ (n : ℕ) (k f : Fact) (positive : (0 == n) ≡ false) where
  pub count_grows : (rows : List Row) → count_of (counted n k rows) f ≡ count_of rows f + one_if (is_news n f k rows)
  count_grows [] = first_count (is_same f k) n positive
  count_grows (r ∷ rs) = by (count_grows rs) (is_same k r.fact) refl
    where
      at : Bool → ℕ
      at c = count_of (if c then bumped n r ∷ rs else r ∷ counted n k rs) f

      wanted : ℕ
      wanted = count_of (r ∷ rs) f + one_if (is_news n f k (r ∷ rs))

      beside : (count_of (counted n k rs) f ≡ count_of rs f + one_if (is_news n f k rs)) → (b : Bool) → is_same f r.fact ≡ b → is_same k r.fact ≡ false
          → counts_of b r.count (count_of (counted n k rs) f) ≡ counts_of b r.count (count_of rs f) + one_if (is_same f k && not (counts_of b r.last (last_of rs f) == n))
      beside rest true is other =
          kept_here (is_same f k) n r.last r.count (false_from_ne_true _ (λ w. false≢true (sym other ∙ sym (left_fact f k r.fact w) ∙ is)))
      beside rest false is other = rest

      by : (count_of (counted n k rs) f ≡ count_of rs f + one_if (is_news n f k rs)) → (c : Bool) → is_same k r.fact ≡ c → at (is_same k r.fact) ≡ wanted
      by rest true is =
          ap at is
          ∙ ap (λ g. counts_of (is_same f g) (bumped n r).count (count_of rs f)) (bumped_fact (r.last == n) n r)
          ∙ grows_here (is_same f r.fact) n r (count_of rs f) (last_of rs f)
          ∙ ap (λ e. count_of (r ∷ rs) f + one_if (e && not (last_of (r ∷ rs) f == n))) (sym (same_fact k r.fact f is))
      by rest false is = ap at is ∙ beside rest (is_same f r.fact) refl is

  last_grows : (rows : List Row) → last_of (counted n k rows) f ≡ counts_of (is_same f k) n (last_of rows f)
  last_grows [] = refl
  last_grows (r ∷ rs) = by (last_grows rs) (is_same k r.fact) refl
    where
      at : Bool → ℕ
      at c = last_of (if c then bumped n r ∷ rs else r ∷ counted n k rs) f

      swap : (b : Bool) (last : ℕ) → counts_of b n last ≡ counts_of b n (counts_of b r.last last)
      swap true last = refl
      swap false last = refl

      beside : (last_of (counted n k rs) f ≡ counts_of (is_same f k) n (last_of rs f)) → (b : Bool) → is_same f r.fact ≡ b → is_same k r.fact ≡ false
          → counts_of b r.last (last_of (counted n k rs) f) ≡ counts_of (is_same f k) n (counts_of b r.last (last_of rs f))
      beside rest true is other =
          ap (λ e. counts_of e n r.last)
          (sym (false_from_ne_true (is_same f k) (λ w. false≢true (sym other ∙ sym (left_fact f k r.fact w) ∙ is))))
      beside rest false is other = rest

      by : (last_of (counted n k rs) f ≡ counts_of (is_same f k) n (last_of rs f)) → (c : Bool) → is_same k r.fact ≡ c → at (is_same k r.fact) ≡ counts_of (is_same f k) n (last_of (r ∷ rs) f)
      by rest true is =
          ap at is
          ∙ ap (λ g. counts_of (is_same f g) (bumped n r).last (last_of rs f)) (bumped_fact (r.last == n) n r)
          ∙ ap (λ l. counts_of (is_same f r.fact) l (last_of rs f)) (bumped_last (r.last == n) n r refl)
          ∙ swap (is_same f r.fact) (last_of rs f)
          ∙ ap (λ e. counts_of e n (last_of (r ∷ rs) f)) (sym (same_fact k r.fact f is))
      by rest false is = ap at is ∙ beside rest (is_same f r.fact) refl is

-- ---- what the rows keep

pub counted_within : (n : ℕ) (k : Fact) (rows : List Row) → 0 < n → AreWithin n rows → AreWithin n (counted n k rows)
counted_within n k [] positive within = (omega (arith, positive), omega arith, tt)
counted_within n k (r ∷ rs) positive within = by (counted_within n k rs positive within.2) (is_same k r.fact)
  where
    by : AreWithin n (counted n k rs) → (c : Bool) → AreWithin n (if c then bumped n r ∷ rs else r ∷ counted n k rs)
    by rest true = let here = bumped_within (r.last == n) n r refl within.0 within.1 in (here.0, here.1, within.2)
    by rest false = (within.0, within.1, rest)

pub within_more : (m n : ℕ) (rows : List Row) → m ≤ n → AreWithin m rows → AreWithin n rows
within_more m n [] more within = tt
within_more m n (r ∷ rs) more within = (within.0, omega (arith, more, within.1), within_more m n rs more within.2)

pub last_small : (m : ℕ) (rows : List Row) (f : Fact) → AreWithin m rows → last_of rows f ≤ m
last_small m [] f within = omega arith
last_small m (r ∷ rs) f within = by (last_small m rs f within.2) (is_same f r.fact)
  where
    by : (last_of rs f ≤ m) → (b : Bool) → counts_of b r.last (last_of rs f) ≤ m
    by rest true = within.1
    by rest false = rest

pub row_small : (n : ℕ) (rows : List Row) (i : ℕ) (d : Row) → i < length rows → AreWithin n rows → (get_or rows i d).count ≤ n
row_small n [] i d low within = absurd (omega (arith, low))
row_small n (r ∷ rs) zero d low within = omega (arith, within.0, within.1)
row_small n (r ∷ rs) (suc i) d low within = row_small n rs i d (omega (arith, low)) within.2

-- ---- the facts of a journal, one after the other

-- the rows after these facts, as against those before
pub record CountsSo (n : ℕ) (old new : List Row) (facts : List Fact) : Type 0 where
  pub count : (f : Fact) → count_of new f ≡ count_of old f + one_if (is_shown facts f)
  pub last : (f : Fact) → last_of new f ≡ counts_of (is_shown facts f) n (last_of old f)

pub counts_nothing : (n : ℕ) (rows : List Row) → CountsSo n rows rows []
counts_nothing n rows = record { count = λ f. omega arith; last = λ f. refl }

once : (s e : Bool) (n old : ℕ) → (n == n) ≡ true → (old == n) ≡ false
    → one_if s + one_if (e && not (counts_of s n old == n)) ≡ one_if (s || e)
once true true n old is other = ap (λ b. 1 + one_if (not b)) is
once true false n old is other = refl
once false true n old is other = ap (λ b. 0 + one_if (not b)) other
once false false n old is other = refl

lasts : (s e : Bool) (n old : ℕ) → counts_of e n (counts_of s n old) ≡ counts_of (s || e) n old
lasts true true n old = refl
lasts true false n old = refl
lasts false true n old = refl
lasts false false n old = refl

or_nothing : (b : Bool) → (b || false) ≡ b
or_nothing true = refl
or_nothing false = refl

shown_more : (facts : List Fact) (i : ℕ) (k f : Fact) → i < length facts → k ≡ get_or facts i k
    → is_shown (take (i + 1) facts) f ≡ (is_shown (take i facts) f || is_same f k)
shown_more facts i k f low is =
    ap (list_any (is_same f)) (take_more facts i k low)
    ∙ list_any-append (is_same f) (take i facts) (get_or facts i k ∷ [])
    ∙ ap (λ b. is_shown (take i facts) f || b) (or_nothing (is_same f (get_or facts i k)) ∙ ap (is_same f) (sym is))

pub counts_more : (m n i : ℕ) (old mid new : List Row) (facts : List Fact) (k : Fact) → m < n → AreWithin m old → i < length facts
    → k ≡ get_or facts i k → new ≡ counted n k mid → CountsSo n old mid (take i facts) → CountsSo n old new (take (i + 1) facts)
counts_more m n i old mid new facts k more within low is made so = record { count = counts; last = ends }
  where
    positive : (0 == n) ≡ false
    positive = false_from_ne_true (0 == n) (λ w. let same = eqb-true 0 n w in absurd (omega (arith, more, same)))

    other : (f : Fact) → (last_of old f == n) ≡ false
    other f = false_from_ne_true (last_of old f == n)
        (λ w. let same = eqb-true (last_of old f) n w in let small = last_small m old f within in absurd (omega (arith, more, same, small)))

    counts : (f : Fact) → count_of new f ≡ count_of old f + one_if (is_shown (take (i + 1) facts) f)
    counts f =
        let s = is_shown (take i facts) f in
        let e = is_same f k in
        let grown : count_of new f ≡ count_of mid f + one_if (e && not (last_of mid f == n)) =
        ap (λ rs. count_of rs f) made ∙ count_grows n k f positive mid in
        let last : one_if (e && not (last_of mid f == n)) ≡ one_if (e && not (counts_of s n (last_of old f) == n)) =
        ap (λ l. one_if (e && not (l == n))) (so.last f) in
        let both = once s e n (last_of old f) (eq-eqb n n refl) (other f) in
        let shown : one_if (is_shown (take (i + 1) facts) f) ≡ one_if (s || e) = ap one_if (shown_more facts i k f low is) in
        omega (arith, grown, last, both, shown, so.count f)

    ends : (f : Fact) → last_of new f ≡ counts_of (is_shown (take (i + 1) facts) f) n (last_of old f)
    ends f =
        ap (λ rs. last_of rs f) made ∙ last_grows n k f positive mid
        ∙ ap (λ l. counts_of (is_same f k) n l) (so.last f)
        ∙ lasts (is_shown (take i facts) f) (is_same f k) n (last_of old f)
        ∙ ap (λ b. counts_of b n (last_of old f)) (sym (shown_more facts i k f low is))

same_default : {X : Type 0} (xs : List X) (i : ℕ) (d e : X) → i < length xs → get_or xs i d ≡ get_or xs i e
same_default [] i d e low = absurd (omega (arith, low))
same_default (x ∷ xs) zero d e low = refl
same_default (x ∷ xs) (suc i) d e low = same_default xs i d e (omega (arith, low))

-- the rows after one fact more of a journal
pub note_step : (m n i : ℕ) (old mid new : List Row) (facts : List Fact) (d : Fact) → m < n → AreWithin m old → AreWithin n mid
    → i < length facts → new ≡ counted n (get_or facts i d) mid → CountsSo n old mid (take i facts)
    → record { within : AreWithin n new; counts : CountsSo n old new (take (i + 1) facts) }
note_step m n i old mid new facts d more before within low made so = record {
  within = subst (AreWithin n) (sym made) (counted_within n (get_or facts i d) mid (omega (arith, more)) within);
  counts =
      counts_more m n i old mid new facts (get_or facts i d) more before low (same_default facts i d (get_or facts i d) low) made so;
}
