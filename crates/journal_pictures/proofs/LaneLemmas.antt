-- Lemmas on stretches while they are found.
use Rattle.std.proofs.Common.{◌≡◌, ◌∙◌, ℕ, suc, ◌+◌, ◌<◌, ◌≤◌, Bool, true, false, not, cond, eqb, ltb, leb, ◌&&◌, List, [], ◌∷◌, ◌++◌, length, take, get_or, refl, sym, ap, subst, arith, inl, inr, below_more}
use Rattle.std.specs.List.{All, count_by}
use Rattle.std.proofs.lemmas.Bool.{eqb-true, ltb-true, ltb-false, leb-true, leb-false, eq-eqb, ne_eqb, lt-ltb, le-ltb, le-leb, lt-leb, cases_order, cases_lt}
use Rattle.std.proofs.lemmas.List.Elements.{All-weaker}
use Rattle.std.proofs.lemmas.List.{get_or_append_left, length-append}
use Rattle.std.proofs.lemmas.List.Sums.{sum_by_push, sum_by_more}
use Rattle.std.proofs.Math.Seq.{get_or-append_seam}
use Rattle.caa_base.specs.declared.written.entry.Entry.{Entry}
use Rattle.place_plan.specs.Plans.PlanValue.{Plan}
use Rattle.journal_pictures.specs.declared.stretches.Doing.{Doing}
use Rattle.journal_pictures.specs.declared.stretches.Doing.TheVariants as doing
use Rattle.journal_pictures.specs.declared.stretches.Stretch.{Stretch}
use Rattle.journal_pictures.specs.Stretches.{is_wait, is_away, IsRightAt, has_moment}
use Rattle.journal_pictures.specs.inner.Lanes.{LiesIn, GoesTo, AreOpen, one_if}

-- what is read behind the end of a list of stretches
abbrev pub no_stretch : Stretch
no_stretch = record { lane = 0; doing = doing.Away; from = 0; to = 0 }

-- ---- where stretches lie

-- what is right is so too with another doing that waits and is away as it does
alike : (plan : Plan) (entries : List Entry) (k t : ℕ) (d e : Doing) → is_wait d ≡ is_wait e → is_away d ≡ is_away e
    → IsRightAt plan entries k t e → IsRightAt plan entries k t d
alike plan entries k t d e waits away here = record {
  waits = (λ w. here.waits.0 (sym waits ∙ w), λ h. waits ∙ here.waits.1 h);
  away = away ∙ here.away;
}

-- a stretch of one moment
pub lies_begun : (plan : Plan) (entries : List Entry) (first m : ℕ) (s : Stretch) → s.lane < length plan.participants → first ≤ m
    → s.from ≡ m → s.to ≡ m + 1 → IsRightAt plan entries m s.lane s.doing → LiesIn plan entries first (m + 1) s
lies_begun plan entries first m s known low from to here = record {
  known = known;
  low = omega (arith, low, from);
  lasts = omega (arith, from, to);
  high = omega (arith, to);
  right = λ k above below. subst (λ (j : ℕ). IsRightAt plan entries j s.lane s.doing) (omega (arith, from, to, above, below)) here;
}

-- one that goes on for a moment
pub lies_longer : (plan : Plan) (entries : List Entry) (first m : ℕ) (former s : Stretch) (d : Doing) → LiesIn plan entries first m former
    → former.to ≡ m → s.lane ≡ former.lane → s.doing ≡ former.doing → s.from ≡ former.from → s.to ≡ m + 1
    → is_wait former.doing ≡ is_wait d → is_away former.doing ≡ is_away d
    → IsRightAt plan entries m former.lane d → LiesIn plan entries first (m + 1) s
lies_longer plan entries first m former s d lies met lane same from to waits away here = record {
  known = subst (λ (t : ℕ). t < length plan.participants) (sym lane) lies.known;
  low = omega (arith, lies.low, from);
  lasts = omega (arith, lies.lasts, from, met, to);
  high = omega (arith, to);
  right = λ k above below.
      let old : IsRightAt plan entries k former.lane former.doing =
      elim (cases_lt k m) as (λ _. IsRightAt plan entries k former.lane former.doing) [
        | inl low ↦ lies.right k (omega (arith, above, from)) (omega (arith, low, met))
        | inr high ↦
            subst (λ (j : ℕ). IsRightAt plan entries j former.lane former.doing)
            (omega (arith, high, to, below))
            (alike plan entries m former.lane former.doing d waits away here)
      ] in
      subst (λ (t : ℕ). IsRightAt plan entries k t s.doing) (sym lane)
      (subst (λ (e : Doing). IsRightAt plan entries k former.lane e) (sym same) old);
}

-- what lies up to a moment lies up to a later one
pub all_further : (plan : Plan) (entries : List Entry) (first m n : ℕ) (ss : List Stretch) → m ≤ n
    → All (LiesIn plan entries first m) ss → All (LiesIn plan entries first n) ss
all_further plan entries first m n ss further all =
    All-weaker (LiesIn plan entries first m) (LiesIn plan entries first n)
    (λ s lies. record {
      known = lies.known;
      low = lies.low;
      lasts = lies.lasts;
      high = omega (arith, lies.high, further);
      right = lies.right;
    }) ss all

-- ---- how many have a moment

-- the tests of a moment in a stretch that goes on for one more
more_moments : (from m k : ℕ) → from < m
    → one_if (leb from k && ltb k (m + 1)) ≡ one_if (leb from k && ltb k m) + one_if (eqb m k)
more_moments from m k low = elim (cases_order k m) as (λ _. one_if (leb from k && ltb k (m + 1)) ≡ one_if (leb from k && ltb k m) + one_if (eqb m k)) [
  | inl same ↦
      rw (
        le-leb from k (omega (arith, low, same)),
        lt-ltb k (m + 1) (omega (arith, same)),
        le-ltb k m (omega (arith, same)),
        eq-eqb m k (sym same),
      ) refl
  | inr (inl below) ↦
      rw (lt-ltb k (m + 1) (omega (arith, below)), lt-ltb k m below, ne_eqb m k (λ e. omega (arith, e, below)))
      (let n = one_if (leb from k && true) in let e : n ≡ n + 0 = omega arith in e)
  | inr (inr above) ↦
      rw (le-ltb k (m + 1) (omega (arith, above)), le-ltb k m (omega (arith, above)), ne_eqb m k (λ e. omega (arith, e, above)))
      (let n = one_if (leb from k && false) in let e : n ≡ n + 0 = omega arith in e)
]

-- the tests of the one moment of a stretch
one_moment : (m k : ℕ) → one_if (leb m k && ltb k (m + 1)) ≡ one_if (eqb m k)
one_moment m k = elim (cases_order k m) as (λ _. one_if (leb m k && ltb k (m + 1)) ≡ one_if (eqb m k)) [
  | inl same ↦ rw (le-leb m k (omega (arith, same)), lt-ltb k (m + 1) (omega (arith, same)), eq-eqb m k (sym same)) refl
  | inr (inl below) ↦ rw (lt-leb m k below, ne_eqb m k (λ e. omega (arith, e, below))) refl
  | inr (inr above) ↦
      rw (le-leb m k (omega (arith, above)), le-ltb k (m + 1) (omega (arith, above)), ne_eqb m k (λ e. omega (arith, e, above))) refl
]

-- with a test more before each of them
both_tested : (b x y z : Bool) → one_if x ≡ one_if y + one_if z → one_if (b && x) ≡ one_if (b && y) + one_if (b && z)
both_tested true x y z h = h
both_tested false x y z h = refl

pub begun_has : (t k m : ℕ) (s : Stretch) → s.from ≡ m → s.to ≡ m + 1
    → one_if (has_moment t k s) ≡ one_if (eqb s.lane t && eqb m k)
begun_has t k m s from to = rw (from, to) (tested (eqb s.lane t))
  where
    tested : (b : Bool) → one_if (b && (leb m k && ltb k (m + 1))) ≡ one_if (b && eqb m k)
    tested true = one_moment m k
    tested false = refl

pub longer_has : (t k m : ℕ) (former s : Stretch) → former.from < m → former.to ≡ m → s.lane ≡ former.lane → s.from ≡ former.from
    → s.to ≡ m + 1 → one_if (has_moment t k s) ≡ one_if (has_moment t k former) + one_if (eqb former.lane t && eqb m k)
longer_has t k m former s low met lane from to =
    rw (lane, from, to, met)
    (both_tested (eqb former.lane t) (leb former.from k && ltb k (m + 1)) (leb former.from k && ltb k m) (eqb m k)
    (more_moments former.from m k low))

-- with one more number below
more_below : (t i : ℕ) (b : Bool) → one_if (ltb t (i + 1) && b) ≡ one_if (ltb t i && b) + one_if (eqb i t && b)
more_below t i b = elim (cases_order t i) as (λ _. one_if (ltb t (i + 1) && b) ≡ one_if (ltb t i && b) + one_if (eqb i t && b)) [
  | inl same ↦ rw (lt-ltb t (i + 1) (omega (arith, same)), le-ltb t i (omega (arith, same)), eq-eqb i t (sym same)) (omega arith)
  | inr (inl below) ↦ rw (lt-ltb t (i + 1) (omega (arith, below)), lt-ltb t i below, ne_eqb i t (λ e. omega (arith, e, below))) (omega arith)
  | inr (inr above) ↦
      rw (le-ltb t (i + 1) (omega (arith, above)), le-ltb t i (omega (arith, above)), ne_eqb i t (λ e. omega (arith, e, above))) refl
]

-- the test of a number below is as good as none
pub all_below : (t n : ℕ) (b : Bool) → t < n → one_if (ltb t n && b) ≡ one_if b
all_below t n b low = rw (lt-ltb t n low) refl

-- ---- one more

pub open_more : (n m : ℕ) (ss : List Stretch) (s : Stretch) → AreOpen n m ss → GoesTo n m s → AreOpen (n + 1) m (ss ++ s ∷ [])
open_more n m ss s all next = (
  omega (arith, length-append ss (s ∷ []), all.0),
  λ t d low.
      below_more (λ (j : ℕ). GoesTo j m (get_or (ss ++ s ∷ []) j d)) n
      (λ j below. subst (GoesTo j m) (sym (get_or_append_left ss (s ∷ []) d j (omega (arith, below, all.0)))) (all.1 j d below))
      (subst (λ (j : ℕ). GoesTo n m (get_or (ss ++ s ∷ []) j d)) all.0 (subst (GoesTo n m) (sym (get_or-append_seam ss s [] d)) next))
      t (omega (arith, low)),
)

-- the number of those that have a moment, with one that begins
pub begun_more : (t k m i : ℕ) (ss : List Stretch) (s : Stretch) → s.lane ≡ i → s.from ≡ m → s.to ≡ m + 1
    → count_by (has_moment t k) ss ≡ one_if (ltb t i && eqb m k)
    → count_by (has_moment t k) (ss ++ s ∷ []) ≡ one_if (ltb t (i + 1) && eqb m k)
begun_more t k m i ss s lane from to before =
    let one = begun_has t k m s from to in
    let same = ap (λ (l : ℕ). one_if (eqb l t && eqb m k)) lane in
    omega (arith, sum_by_push (λ (x : Stretch). cond (has_moment t k x) 1 0) ss s, one, same, before, more_below t i (eqb m k))

-- the number of those that are done or go on, with one more that is taken in
pub taken_more : (t k m i : ℕ) (old done after next former : List Stretch) (d kept : Stretch) → i < length former
    → (get_or former i d).lane ≡ i
    → count_by (has_moment t k) done + count_by (has_moment t k) next
    ≡ count_by (has_moment t k) old + count_by (has_moment t k) (take i former) + one_if (ltb t i && eqb m k)
    → count_by (has_moment t k) after + one_if (has_moment t k kept)
    ≡ count_by (has_moment t k) done + one_if (has_moment t k (get_or former i d)) + one_if (eqb (get_or former i d).lane t && eqb m k)
    → count_by (has_moment t k) after + count_by (has_moment t k) (next ++ kept ∷ [])
    ≡ count_by (has_moment t k) old + count_by (has_moment t k) (take (i + 1) former) + one_if (ltb t (i + 1) && eqb m k)
taken_more t k m i old done after next former d kept low lane before now =
    let f : Stretch → ℕ = λ x. cond (has_moment t k x) 1 0 in
    let same = ap (λ (l : ℕ). one_if (eqb l t && eqb m k)) lane in
    omega (arith, sum_by_push f next kept, sum_by_more f former i d low, same, before, now, more_below t i (eqb m k))
