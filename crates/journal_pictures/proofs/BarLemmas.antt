-- The rectangles of stretches.
use Rattle.std.proofs.Common.{◌≡◌, ◌∙◌, ℕ, ◌+◌, ◌<◌, Bool, true, false, List, [], ◌∷◌, ◌++◌, length, take, filter, map, get_or, refl, sym, ap, subst}
use Rattle.std.specs.List.{All}
use Rattle.std.proofs.lemmas.List.{take_more, map-append, append-nil}
use Rattle.std.proofs.lemmas.List.Elements.{All-nil, All-cons, All-head, All-tail, All-filter, filter-append}
use Rattle.journal_pictures.specs.declared.layout.View.{View}
use Rattle.journal_pictures.specs.declared.shapes.Bar.{Bar}
use Rattle.journal_pictures.specs.declared.stretches.Stretch.{Stretch}
use Rattle.journal_pictures.specs.Stretches.{IsRight, CoverAll}
use Rattle.journal_pictures.specs.Pictures.{IsBar, stretches_shown}
use Rattle.journal_pictures.specs.inner.Lanes.{AreOne}
use Rattle.journal_pictures.specs.inner.Parts.{is_here, AreBars}
use Rattle.journal_pictures.proofs.PartLemmas.{here_cover}

-- with a rectangle more where the stretch is one of somebody who is there
pub one_shown : (bars : List Bar) (b : Bar) (s : Stretch) → is_here s ≡ true → b.stretch ≡ s
    → stretches_shown (bars ++ b ∷ []) ≡ stretches_shown bars ++ filter is_here (s ∷ [])
one_shown bars b s here same =
    map-append (λ (x : Bar). x.stretch) bars (b ∷ [])
    ∙ ap (λ (x : Stretch). stretches_shown bars ++ x ∷ []) same
    ∙ ap (λ (xs : List Stretch). stretches_shown bars ++ xs) (sym (rw here refl))

-- and without one where it is one of somebody who is away
pub none_shown : (bars : List Bar) (s : Stretch) → is_here s ≡ false
    → stretches_shown bars ≡ stretches_shown bars ++ filter is_here (s ∷ [])
none_shown bars s away =
    sym (ap (λ (xs : List Stretch). stretches_shown bars ++ xs) (rw away refl) ∙ append-nil (stretches_shown bars))

-- with one stretch more, as it stands in the list
pub all_shown : (ss : List Stretch) (i : ℕ) (d : Stretch) (old new : List Stretch) → i < length ss → old ≡ filter is_here (take i ss)
    → new ≡ old ++ filter is_here (get_or ss i d ∷ []) → new ≡ filter is_here (take (i + 1) ss)
all_shown ss i d old new low so_far more =
    more
    ∙ ap (λ (xs : List Stretch). xs ++ filter is_here (get_or ss i d ∷ [])) so_far
    ∙ sym (ap (filter is_here) (take_more ss i d low) ∙ filter-append is_here (take i ss) (get_or ss i d ∷ []))

-- what holds of the stretches that are shown holds of that of each rectangle
of_each : (P : Stretch → Type 0) (bars : List Bar) → All P (stretches_shown bars) → All (λ b. P b.stretch) bars
of_each P [] all = All-nil (λ b. P b.stretch)
of_each P (b ∷ bars) all =
    All-cons (λ b. P b.stretch) b bars (All-head P b.stretch (stretches_shown bars) all)
    (of_each P bars (All-tail P b.stretch (stretches_shown bars) all))

-- the rectangles of the stretches of those who are in a place
pub are_bars : (view : View) (ss : List Stretch) (bars : List Bar)
    → All (IsRight view.plan.now view.entries.now view.first view.rows) ss
    → AreOne view.plan.now view.entries.now view.first view.rows ss
    → stretches_shown bars ≡ filter is_here ss → All (IsBar view.axes.now view.first view.rows) bars → AreBars view bars
are_bars view ss bars right one shown placed = record {
  right =
      of_each (IsRight view.plan.now view.entries.now view.first view.rows) bars
      (subst (All (IsRight view.plan.now view.entries.now view.first view.rows)) (sym shown)
      (All-filter is_here (IsRight view.plan.now view.entries.now view.first view.rows) ss right));
  placed = placed;
  cover =
      subst (CoverAll view.plan.now view.entries.now view.first view.rows) (sym shown)
      (here_cover view.plan.now view.entries.now view.first view.rows ss right one);
}
