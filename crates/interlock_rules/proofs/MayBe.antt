-- Where an object may be, and what is known of it for sure.
use Rattle.std.proofs.Common.{◌≡◌, ℕ, ℤ, ◌+◌, ◌<◌, length, reverse, take, get_or, pos, negsuc, ◌⊎◌, inl, inr, Bool, true, false, not, ◌&&◌, ◌||◌, List, [], ◌∷◌, Option, Some, None, nat_lt, refl, sym, ap, ◌∙◌, subst, arith}
use Rattle.std.proofs.lemmas.Bool.{and_parts, and_from, or_cases, or_left, or_right, false≢true}
use Rattle.std.proofs.lemmas.Bool.Decides.{nat_tests}
use Rattle.caa_base.specs.declared.written.entry.Entry.{Entry}
use Rattle.caa_base.proofs.ListLemmas.{chosen}
use Rattle.place_plan.specs.Plans.PlanValue.{Plan}
use Rattle.place_plan.specs.Plans.Places.{initial_of}
use Rattle.place_plan.specs.RulesOfJournals.Roles.{int_same}
use Rattle.place_plan.proofs.OnJournals.LatestValues.{blank, reverse_more}
use Rattle.interlock_rules.specs.Interlocks.{fits, is_put_on, is_fault_on, may_be, MayBeElsewhere, MayFit}
use Rattle.interlock_rules.specs.inner.Watched.{may_fit, only_if, sure_at, is_sure}
use Rattle.interlock_rules.specs.declared.rules.Part.{Part}

-- ---- one number

neither_less : (a b : ℕ) → (not (nat_lt a b) && not (nat_lt b a)) ≡ true → a ≡ b
neither_less a b h = grind (arith, nat_tests)

not_less : (a : ℕ) → (not (nat_lt a a) && not (nat_lt a a)) ≡ true
not_less a = grind (arith, nat_tests)

pub same_is : (x y : ℤ) → int_same x y ≡ true → x ≡ y
same_is (pos a) (pos b) h = ap pos (neither_less a b h)
same_is (pos a) (negsuc b) h = absurd (false≢true h)
same_is (negsuc a) (pos b) h = absurd (false≢true h)
same_is (negsuc a) (negsuc b) h = ap negsuc (sym (neither_less b a h))

pub same_self : (x : ℤ) → int_same x x ≡ true
same_self (pos a) = not_less a
same_self (negsuc a) = not_less a

-- ---- where it may be after one entry more

-- what may be before a put or restore that wasn't taken may be after it
pub may_stay : (plan : Plan) (e : Entry) (past : List Entry) (o : ℕ) (x : ℤ) → is_put_on o e ≡ false
    → may_be plan past o x ≡ true → may_be plan (e ∷ past) o x ≡ true
may_stay plan e past o x h k = rw h (or_right _ _ k)

-- and where a refused one wanted it
pub may_come : (plan : Plan) (e : Entry) (past : List Entry) (o : ℕ) → is_put_on o e ≡ false → is_fault_on o e ≡ true
    → may_be plan (e ∷ past) o e.value ≡ true
may_come plan e past o h k = rw h (or_left _ _ (and_from _ _ k (same_self e.value)))

-- one that was taken leaves one number
pub may_taken : (plan : Plan) (e : Entry) (past : List Entry) (o : ℕ) (x : ℤ) → is_put_on o e ≡ true
    → may_be plan (e ∷ past) o x ≡ int_same x e.value
may_taken plan e past o x h = rw h refl

-- else it may be where a refused one wanted it, or where it might be before
pub may_split : (plan : Plan) (e : Entry) (past : List Entry) (o : ℕ) (x : ℤ) → is_put_on o e ≡ false
    → may_be plan (e ∷ past) o x ≡ true
    → ((is_fault_on o e ≡ true) × (int_same x e.value ≡ true)) ⊎ (may_be plan past o x ≡ true)
may_split plan e past o x h m =
    elim (chosen (is_put_on o e) _ _ true m) [
      | inl w ↦ absurd (false≢true (sym h ∙ w.0))
      | inr w ↦ elim (or_cases _ _ w.1) [
        | inl f ↦ inl (and_parts _ _ f)
        | inr k ↦ inr k
      ]
    ]

-- ---- the numbers, looked for from the newest entry on

either_way : (a b : Bool) → (a || b) ≡ (b || a)
either_way true true = refl
either_way true false = refl
either_way false true = refl
either_way false false = refl

moved_behind : (s a m : Bool) → ((s || a) || m) ≡ (a || (s || m))
moved_behind true true m = refl
moved_behind true false m = refl
moved_behind false true m = refl
moved_behind false false m = refl

-- the entry at i put it there, and nothing later did more than was told
pub last_told : (plan : Plan) (es : List Entry) (i j : ℕ) (o : ℕ) (x : ℤ) (old new : Bool) → j ≡ i + 1 → i < length es
    → is_put_on o (get_or es i blank) ≡ true → new ≡ (int_same x (get_or es i blank).value || old)
    → (old || may_be plan (reverse (take j es)) o x) ≡ may_be plan (reverse es) o x → new ≡ may_be plan (reverse es) o x
last_told plan es i j o x old new e h p n before =
    let now : may_be plan (reverse (take j es)) o x ≡ int_same x (get_or es i blank).value = rw (e, reverse_more es i blank h, p) refl in
    n ∙ either_way (int_same x (get_or es i blank).value) old ∙ ap (λ b. old || b) (sym now) ∙ before

-- the entry at i was refused, and is told now
pub doubt_told : (plan : Plan) (es : List Entry) (i j : ℕ) (o : ℕ) (x : ℤ) (old new : Bool) → j ≡ i + 1 → i < length es
    → is_put_on o (get_or es i blank) ≡ false → is_fault_on o (get_or es i blank) ≡ true
    → new ≡ (int_same x (get_or es i blank).value || old)
    → (old || may_be plan (reverse (take j es)) o x) ≡ may_be plan (reverse es) o x
    → (new || may_be plan (reverse (take i es)) o x) ≡ may_be plan (reverse es) o x
doubt_told plan es i j o x old new e h p f n before =
    let more : may_be plan (reverse (take j es)) o x
    ≡ (int_same x (get_or es i blank).value || may_be plan (reverse (take i es)) o x) = rw (e, reverse_more es i blank h, p, f) refl in
    ap (λ b. b || may_be plan (reverse (take i es)) o x) n
    ∙ moved_behind (int_same x (get_or es i blank).value) old (may_be plan (reverse (take i es)) o x)
    ∙ ap (λ b. old || b) (sym more) ∙ before

-- ---- parts that may fit

fits_same : (part : Part) (x y : ℤ) → int_same x y ≡ true → fits part x ≡ true → fits part y ≡ true
fits_same part x y h k = subst (λ z. fits part z ≡ true) (same_is x y h) k

pub fit_shows : (plan : Plan) (past : List Entry) (part : Part) → may_fit plan past part ≡ true → MayFit plan past part
fit_shows plan [] part h = record { at = initial_of plan part.object; may = same_self (initial_of plan part.object); fit = h }
fit_shows plan (e ∷ past) part h =
    elim (chosen (is_put_on part.object e) _ _ true h) [
      | inl w ↦ record { at = e.value; may = may_taken plan e past part.object e.value w.0 ∙ same_self e.value; fit = w.1 }
      | inr w ↦ elim (or_cases _ _ w.1) [
        | inl f ↦
            let both = and_parts _ _ f in
            record { at = e.value; may = may_come plan e past part.object w.0 both.0; fit = both.1 }
        | inr k ↦
            let before = fit_shows plan past part k in
            record { at = before.at; may = may_stay plan e past part.object before.at w.0 before.may; fit = before.fit }
      ]
    ]

fit_taken : (plan : Plan) (e : Entry) (past : List Entry) (part : Part) → is_put_on part.object e ≡ true → fits part e.value ≡ true
    → may_fit plan (e ∷ past) part ≡ true
fit_taken plan e past part h k = rw h k

fit_stays : (plan : Plan) (e : Entry) (past : List Entry) (part : Part) → is_put_on part.object e ≡ false
    → may_fit plan past part ≡ true → may_fit plan (e ∷ past) part ≡ true
fit_stays plan e past part h k = rw h (or_right (is_fault_on part.object e && fits part e.value) (may_fit plan past part) k)

fit_comes : (plan : Plan) (e : Entry) (past : List Entry) (part : Part) → is_put_on part.object e ≡ false
    → is_fault_on part.object e ≡ true → fits part e.value ≡ true → may_fit plan (e ∷ past) part ≡ true
fit_comes plan e past part h f k =
    rw h (or_left (is_fault_on part.object e && fits part e.value) (may_fit plan past part)
    (and_from (is_fault_on part.object e) (fits part e.value) f k))

shown_fit : (plan : Plan) (past : List Entry) (part : Part) (x : ℤ) → may_be plan past part.object x ≡ true → fits part x ≡ true
    → may_fit plan past part ≡ true
shown_fit plan [] part x m k = fits_same part x (initial_of plan part.object) m k
shown_fit plan (e ∷ past) part x m k =
    elim (chosen (is_put_on part.object e) _ _ true m) [
      | inl w ↦ fit_taken plan e past part w.0 (fits_same part x e.value w.1 k)
      | inr w ↦ elim (may_split plan e past part.object x w.0 m) [
        | inl f ↦ fit_comes plan e past part w.0 f.0 (fits_same part x e.value f.1 k)
        | inr b ↦ fit_stays plan e past part w.0 (shown_fit plan past part x b k)
      ]
    ]

pub shows_fit : (plan : Plan) (past : List Entry) (part : Part) → MayFit plan past part → may_fit plan past part ≡ true
shows_fit plan past part may = shown_fit plan past part may.at may.may may.fit

-- ---- where it is for sure

only_same : (x : ℤ) (was : Option ℤ) (v : ℤ) → only_if x was ≡ Some v → (was ≡ Some v) × (int_same v x ≡ true)
only_same x None v h = cc
only_same x (Some y) v h =
    elim (chosen (int_same y x) _ _ (Some v) h) [
      | inl w ↦ let same : y ≡ v = cc in (w.1, subst (λ z. int_same z x ≡ true) same w.0)
      | inr w ↦ absurd cc
    ]

only_none : (x : ℤ) (was : Option ℤ) → only_if x was ≡ None → (was ≡ None) ⊎ ((v : ℤ) × (was ≡ Some v) × (int_same v x ≡ false))
only_none x None h = inl refl
only_none x (Some y) h =
    elim (chosen (int_same y x) _ _ None h) [
      | inl w ↦ absurd cc
      | inr w ↦ inr (y, refl, w.0)
    ]

-- it may be there
sure_may : (plan : Plan) (past : List Entry) (o : ℕ) (v : ℤ) → sure_at plan past o ≡ Some v → may_be plan past o v ≡ true
sure_may plan [] o v h = let same : initial_of plan o ≡ v = cc in subst (λ y. int_same v y ≡ true) (sym same) (same_self v)
sure_may plan (e ∷ past) o v h =
    elim (chosen (is_put_on o e) _ _ (Some v) h) [
      | inl w ↦
          let same : e.value ≡ v = cc in
          may_taken plan e past o v w.0 ∙ subst (λ y. int_same v y ≡ true) (sym same) (same_self v)
      | inr w ↦ elim (chosen (is_fault_on o e) _ _ (Some v) w.1) [
        | inl f ↦ may_stay plan e past o v w.0 (sure_may plan past o v (only_same e.value (sure_at plan past o) v f.1).0)
        | inr f ↦ may_stay plan e past o v w.0 (sure_may plan past o v f.1)
      ]
    ]

-- and nowhere else
sure_only : (plan : Plan) (past : List Entry) (o : ℕ) (v x : ℤ) → sure_at plan past o ≡ Some v → may_be plan past o x ≡ true
    → int_same x v ≡ true
sure_only plan [] o v x h m = let same : initial_of plan o ≡ v = cc in subst (λ y. int_same x y ≡ true) same m
sure_only plan (e ∷ past) o v x h m =
    elim (chosen (is_put_on o e) _ _ (Some v) h) [
      | inl w ↦
          let same : e.value ≡ v = cc in
          subst (λ y. int_same x y ≡ true) same (sym (may_taken plan e past o x w.0) ∙ m)
      | inr w ↦ elim (chosen (is_fault_on o e) _ _ (Some v) w.1) [
        | inl f ↦
            let kept = only_same e.value (sure_at plan past o) v f.1 in
            elim (may_split plan e past o x w.0 m) [
              | inl b ↦ subst (λ y. int_same x y ≡ true) (sym (same_is v e.value kept.1)) b.1
              | inr b ↦ sure_only plan past o v x kept.0 b
            ]
        | inr f ↦
            elim (may_split plan e past o x w.0 m) [
              | inl b ↦ absurd (false≢true (sym f.0 ∙ b.0))
              | inr b ↦ sure_only plan past o v x f.1 b
            ]
      ]
    ]

-- of two numbers one is another than x
one_is_other : (plan : Plan) (past : List Entry) (o : ℕ) (a b x : ℤ) → may_be plan past o a ≡ true → may_be plan past o b ≡ true
    → int_same b a ≡ false → MayBeElsewhere plan past o x
one_is_other plan past o a b x h k d = by_test (int_same a x) refl
  where
    by_test : (t : Bool) → int_same a x ≡ t → MayBeElsewhere plan past o x
    by_test false e = record { at = a; may = h; other = e }
    by_test true e = record { at = b; may = k; other = subst (λ y. int_same b y ≡ false) (same_is a x e) d }

-- where it isn't sure, it may be elsewhere than at any number
unsure : (plan : Plan) (past : List Entry) (o : ℕ) (x : ℤ) → sure_at plan past o ≡ None → MayBeElsewhere plan past o x
unsure plan [] o x h = absurd cc
unsure plan (e ∷ past) o x h =
    elim (chosen (is_put_on o e) _ _ None h) [
      | inl w ↦ absurd cc
      | inr w ↦ elim (chosen (is_fault_on o e) _ _ None w.1) [
        | inl f ↦ elim (only_none e.value (sure_at plan past o) f.1) [
          | inl n ↦ stays w.0 (unsure plan past o x n)
          | inr s ↦
              one_is_other plan (e ∷ past) o e.value s.0 x (may_come plan e past o w.0 f.0)
              (may_stay plan e past o s.0 w.0 (sure_may plan past o s.0 s.1)) s.2
        ]
        | inr f ↦ stays w.0 (unsure plan past o x f.1)
      ]
    ]
  where
    stays : is_put_on o e ≡ false → MayBeElsewhere plan past o x → MayBeElsewhere plan (e ∷ past) o x
    stays p m = record { at = m.at; may = may_stay plan e past o m.at p m.may; other = m.other }

pub elsewhere : (plan : Plan) (past : List Entry) (o : ℕ) (x : ℤ) → is_sure (sure_at plan past o) x ≡ false → MayBeElsewhere plan past o x
elsewhere plan past o x h = by_sure (sure_at plan past o) refl h
  where
    by_sure : (was : Option ℤ) → sure_at plan past o ≡ was → is_sure was x ≡ false → MayBeElsewhere plan past o x
    by_sure None e k = unsure plan past o x e
    by_sure (Some v) e k = record { at = v; may = sure_may plan past o v e; other = k }

pub not_elsewhere : (plan : Plan) (past : List Entry) (o : ℕ) (x : ℤ) → MayBeElsewhere plan past o x → is_sure (sure_at plan past o) x ≡ false
not_elsewhere plan past o x m = by_sure (sure_at plan past o) refl
  where
    by_sure : (was : Option ℤ) → sure_at plan past o ≡ was → is_sure was x ≡ false
    by_sure None e = refl
    by_sure (Some v) e = subst (λ y. int_same y x ≡ false) (same_is m.at v (sure_only plan past o v m.at e m.may)) m.other
