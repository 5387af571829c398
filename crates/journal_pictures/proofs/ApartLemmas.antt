-- Lemmas on where lanes stand.
use Rattle.std.proofs.Common.{◌≡◌, ◌∙◌, ℕ, ◌+◌, ◌<◌, ◌≤◌, List, [], ◌∷◌, ◌++◌, length, get_or, refl, sym, ap, subst, arith, inl, inr}
use Rattle.std.proofs.lemmas.Bool.{cases_lt}
use Rattle.std.proofs.lemmas.List.{get_or_append_left, length-append}
use Rattle.std.proofs.Math.Seq.{get_or-append_seam}
use Rattle.journal_pictures.specs.Pictures.{axis, AreApart}

-- so many lanes stand apart, and so does the one that begins there
pub record AreLeftOf (lanes left : ℕ) (axes : List ℕ) : Type 0 where
  pub number : length axes ≡ lanes
  pub start : 48 ≤ left
  pub edge : (t : ℕ) → t < lanes → 82 ≤ axis axes t
  pub apart : (t u : ℕ) → t < u → u < lanes → axis axes t + 120 ≤ axis axes u
  pub before : (t : ℕ) → t < lanes → axis axes t + 120 ≤ left + 34

-- none do
pub none_apart : AreLeftOf 0 48 []
none_apart = record {
  number = refl;
  start = omega arith;
  edge = λ t low. absurd (omega (arith, low));
  apart = λ t u less low. absurd (omega (arith, low));
  before = λ t low. absurd (omega (arith, low));
}

-- with one lane more
pub lane_more : (lanes left width : ℕ) (axes : List ℕ) → 120 ≤ width → AreLeftOf lanes left axes
    → AreLeftOf (lanes + 1) (left + width) (axes ++ (left + 34) ∷ [])
lane_more lanes left width axes wide so_far = record {
  number = omega (arith, length-append axes ((left + 34) ∷ []), so_far.number);
  start = omega (arith, so_far.start);
  edge = λ t low. elim (cases_lt t lanes) [
    | inl old ↦ omega (arith, kept t old, so_far.edge t old)
    | inr new ↦ omega (arith, added t (omega (arith, low, new)), so_far.start)
  ];
  apart = λ t u less low. elim (cases_lt u lanes) [
    | inl old ↦ omega (arith, kept t (omega (arith, less, old)), kept u old, so_far.apart t u less old)
    | inr new ↦
        omega (
          arith,
          added u (omega (arith, low, new)),
          kept t (omega (arith, less, low, new)),
          so_far.before t (omega (arith, less, low, new)),
        )
  ];
  before = λ t low. elim (cases_lt t lanes) [
    | inl old ↦ omega (arith, kept t old, so_far.before t old)
    | inr new ↦ omega (arith, added t (omega (arith, low, new)), wide)
  ];
}
  where
    kept : (t : ℕ) → t < lanes → axis (axes ++ (left + 34) ∷ []) t ≡ axis axes t
    kept t old = get_or_append_left axes ((left + 34) ∷ []) 0 t (omega (arith, old, so_far.number))

    added : (t : ℕ) → t ≡ lanes → axis (axes ++ (left + 34) ∷ []) t ≡ left + 34
    added t is =
        ap (λ (i : ℕ). axis (axes ++ (left + 34) ∷ []) i) (is ∙ sym so_far.number) ∙ get_or-append_seam axes (left + 34) [] 0

-- all of them, in a picture that reaches further
pub all_apart : (lanes left width : ℕ) (axes : List ℕ) → left + 10 ≤ width → AreLeftOf lanes left axes → AreApart lanes width axes
all_apart lanes left width axes wide all = record {
  number = all.number;
  left = all.edge;
  apart = all.apart;
  right = λ t low. omega (arith, all.before t low, wide);
}
