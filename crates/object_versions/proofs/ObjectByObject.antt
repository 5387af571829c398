-- The objects of a place change one after another.
use Rattle.std.proofs.Common.{◌≡◌, ◌∙◌, ℕ, zero, suc, ◌+◌, ◌==◌, ◌<◌, true, false, ◌||◌, List, [], ◌∷◌, ◌++◌, length, take, get_or, slice_set, get_or-set_same, get_or-set_other, length-set, ◌⊎◌, refl, sym, ap, subst, inl, inr}
use Rattle.std.proofs.lemmas.List.{take_more}
use Rattle.std.proofs.lemmas.List.Folds.{list_any-append}
use Rattle.std.proofs.lemmas.Bool.{cases_Bool, or_cases, or_left, or_right, eqb-true, eq-eqb, false≢true, both_ways}
use Rattle.caa_base.specs.Written.Lists.{member}
use Rattle.object_versions.specs.declared.version.Version.{Version}
use Rattle.object_versions.specs.inner.KeptVersions.{nothing_kept, at}
use Rattle.object_versions.specs.inner.ChangedVersions.{taken, ChangesEach}

-- what was written once more is as it was
set_again : {A : Type 0} (xs : List A) (i : ℕ) (a : A) → slice_set (slice_set xs i a) i a ≡ slice_set xs i a
set_again [] zero a = refl
set_again [] (suc i) a = refl
set_again (x ∷ xs) zero a = refl
set_again {A = A} (x ∷ xs) (suc i) a = ap (λ (ys : List A). x ∷ ys) (set_again xs i a)

-- a place that takes an object again changes nothing
pub taken_again : (p d : ℕ) (version : Version) → taken p d (taken p d version) ≡ taken p d version
taken_again p d version = ap (λ saved. record (taken p d version) { saved = saved }) (set_again version.saved d version.value)

-- one object more
one_more : (seen : List ℕ) (x : ℕ) (change : Version → Version) (old new : List Version)
    → ((version : Version) → change (change version) ≡ change version) → x < length new → ChangesEach seen change old new
    → ChangesEach (seen ++ x ∷ []) change old (slice_set new x (change (at new x)))
one_more seen x change old new again l c = record {
  as_many = length-set new x _ ∙ c.as_many;
  each = λ o m. elim (cases_Bool (x == o)) [
    | inl same ↦
        subst (λ q. at (slice_set new x (change (at new x))) q ≡ change (at old q)) (eqb-true x o same)
        (here (cases_Bool (member x seen)))
    | inr other ↦ there o other ∙ c.each o (before o other m)
  ];
  others = λ o m. elim (cases_Bool (x == o)) [
    | inl same ↦ absurd (both_ways _ m (told o ∙ or_right (member o seen) _ (or_left (x == o) false same)))
    | inr other ↦ there o other ∙ c.others o (not_before o m)
  ];
}
  where
    told : (o : ℕ) → member o (seen ++ x ∷ []) ≡ (member o seen || ((x == o) || false))
    told o = list_any-append (λ y. y == o) seen (x ∷ [])

    there : (o : ℕ) → (x == o) ≡ false → at (slice_set new x (change (at new x))) o ≡ at new o
    there o other = get_or-set_other new x o _ nothing_kept (λ w. both_ways _ other (eq-eqb x o (sym w)))

    here : (member x seen ≡ true) ⊎ (member x seen ≡ false) → at (slice_set new x (change (at new x))) x ≡ change (at old x)
    here (inl seen_before) =
        get_or-set_same new x _ nothing_kept l ∙ (ap change (c.each x seen_before) ∙ again (at old x))
    here (inr unseen) = get_or-set_same new x _ nothing_kept l ∙ ap change (c.others x unseen)

    before : (o : ℕ) → (x == o) ≡ false → member o (seen ++ x ∷ []) ≡ true → member o seen ≡ true
    before o other m =
        elim (or_cases (member o seen) ((x == o) || false) (sym (told o) ∙ m)) [
          | inl seen_before ↦ seen_before
          | inr last ↦ elim (or_cases (x == o) false last) [
            | inl same ↦ absurd (both_ways _ other same)
            | inr never ↦ absurd (false≢true never)
          ]
        ]

    not_before : (o : ℕ) → member o (seen ++ x ∷ []) ≡ false → member o seen ≡ false
    not_before o m =
        elim (cases_Bool (member o seen)) [
          | inl seen_before ↦ absurd (both_ways _ m (told o ∙ or_left (member o seen) _ seen_before))
          | inr unseen ↦ unseen
        ]

-- so the objects of a list change up to one, and then up to the next
pub changed_more : (objects : List ℕ) (i d : ℕ) (change : Version → Version) (old new : List Version)
    → ((version : Version) → change (change version) ≡ change version) → i < length objects → get_or objects i d < length new
    → ChangesEach (take i objects) change old new
    → ChangesEach (take (i + 1) objects) change old (slice_set new (get_or objects i d) (change (at new (get_or objects i d))))
changed_more objects i d change old new again l known c =
    subst (λ seen. ChangesEach seen change old (slice_set new (get_or objects i d) (change (at new (get_or objects i d)))))
    (sym (take_more objects i d l)) (one_more (take i objects) (get_or objects i d) change old new again known c)
