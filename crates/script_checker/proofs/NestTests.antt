-- Nested uses are of actions that are there, whose roles are filled, and which tell the same exceptions outside.
use Rattle.std.proofs.Common.{◌≡◌, ℕ, suc, zero, ◌+◌, ◌<◌, ◌≤◌, nat_lt, ◌==◌, Bool, true, false, not, cond, ◌&&◌, ◌||◌, List, [], ◌∷◌, ◌++◌, map, length, slice_index_or, refl, sym, ap, ◌∙◌, subst, arith, length-append}
use Rattle.std.proofs.lemmas.List.{length-map}
use Rattle.std.specs.List.{list_all}
use Rattle.std.proofs.lemmas.Bool.{and_parts, false≢true, ltb-true, lt-ltb, eqb-true, eq-eqb, and_from, not-false, not-true, or_parts}
use Rattle.caa_base.specs.Written.Lists.{member, index_of}
use Rattle.place_plan.specs.declared.drafts.draft_rows.ActionRow.{ActionRow}
use Rattle.place_plan.specs.declared.drafts.draft_rows.NestRow.{NestRow}
use Rattle.place_plan.specs.Plans.Places.{no_action}
use Rattle.place_plan.specs.Drafts.DraftRules.{all_below, all_differ}
use Rattle.action_script.specs.declared.forms.form.Form.TheVariants as form
use Rattle.script_checker.specs.declared.open_graph.DeclaredGraph.{DeclaredGraph}
use Rattle.script_checker.specs.Numbers.{is_among}
use Rattle.script_checker.specs.DeclaredSoFar.{nest_of, action_of}
use Rattle.script_checker.specs.AtTop.{is_action}
use Rattle.script_checker.proofs.KnownNames.{two_known, then_known}
use Rattle.script_checker.proofs.Accepted.{known, filled, differing, faced}
use Rattle.caa_base.proofs.ListLemmas.{all_imply}
use Rattle.script_checker.proofs.ListsChange.{all_push}
use Rattle.script_checker.proofs.NestsKept.{IsNestTest}

-- ---- tests that aren't passed

pub neither : (a b : Bool) → (not a || not b) ≡ false → (a ≡ true) × (b ≡ true)
neither true true h = (refl, refl)
neither true false h = absurd (false≢true (sym h))
neither false b h = absurd (false≢true (sym h))

-- ---- names and their numbers

-- two names of one number are one
index_one : (ns : List ℕ) (x y : ℕ) → index_of x ns < length ns → index_of y ns ≡ index_of x ns → y ≡ x
index_one [] x y l e = absurd (omega arith)
index_one (n ∷ ns) x y l e = by_tests (n == x) (n == y) refl refl (index_one ns x y) l e
  where
    by_tests : (b c : Bool) → (n == x) ≡ b → (n == y) ≡ c → (index_of x ns < length ns → index_of y ns ≡ index_of x ns → y ≡ x)
        → cond b 0 (suc (index_of x ns)) < suc (length ns) → cond c 0 (suc (index_of y ns)) ≡ cond b 0 (suc (index_of x ns)) → y ≡ x
    by_tests true true b c more l e = sym (eqb-true n y c) ∙ eqb-true n x b
    by_tests true false b c more l e = absurd (omega arith)
    by_tests false true b c more l e = absurd (omega arith)
    by_tests false false b c more l e = more (omega arith) (omega arith)

absent_mapped : (ns : List ℕ) (x : ℕ) (xs : List ℕ) → is_among ns x ≡ true → member x xs ≡ false
    → member (index_of x ns) (map (λ r. index_of r ns) xs) ≡ false
absent_mapped ns x [] a h = refl
absent_mapped ns x (y ∷ ys) a h =
    let p = or_parts (y == x) (member x ys) h in
    rw (by_test (index_of y ns == index_of x ns) refl p.0, absent_mapped ns x ys a p.1) refl
  where
    by_test : (b : Bool) → (index_of y ns == index_of x ns) ≡ b → (y == x) ≡ false → (index_of y ns == index_of x ns) ≡ false
    by_test false e f = e
    by_test true e f = absurd (false≢true (sym f ∙ eq-eqb y x (index_one ns x y (ltb-true _ _ a) (eqb-true _ _ e))))

-- different names have different numbers
pub differ_mapped : (ns xs : List ℕ) → all_differ xs ≡ true → list_all (is_among ns) xs ≡ true
    → all_differ (map (λ r. index_of r ns) xs) ≡ true
differ_mapped ns [] h a = refl
differ_mapped ns (x ∷ xs) h a =
    let p = and_parts (not (member x xs)) (all_differ xs) h in
    let q = and_parts (is_among ns x) (list_all (is_among ns) xs) a in
    rw (absent_mapped ns x xs q.0 (not-true _ p.0), differ_mapped ns xs p.1 q.1) refl

-- what is below a count is below a greater one, and the number of a name that is there is below the count of names
pub still_below : (n few many : ℕ) → nat_lt n few ≡ true → few ≤ many → nat_lt n many ≡ true
still_below n few many h l =
    let low = ltb-true n few h in
    lt-ltb n many (omega arith)

pub numbers_below : (names xs : List ℕ) (many : ℕ) → list_all (is_among names) xs ≡ true → length names ≤ many
    → all_below many (map (λ r. index_of r names) xs) ≡ true
numbers_below names [] many h l = refl
numbers_below names (x ∷ xs) many h l =
    let p = and_parts (is_among names x) (list_all (is_among names) xs) h in
    and_from _ _ (still_below (index_of x names) (length names) many p.0 l) (numbers_below names xs many p.1 l)

-- ---- one action more

pub same_action : (actions : List ActionRow) (more : ActionRow) (a : ℕ) → a < length actions
    → slice_index_or (actions ++ more ∷ []) a no_action ≡ slice_index_or actions a no_action
same_action [] more a l = absurd (omega arith)
same_action (x ∷ xs) more zero l = refl
same_action (x ∷ xs) more (suc a) l = same_action xs more a (omega arith)

pub below_more : (m n : ℕ) (acts : List ℕ) → m < n → all_below m acts ≡ true → all_below n acts ≡ true
below_more m n acts l h = all_imply (λ a. nat_lt a m) (λ a. nat_lt a n) acts (λ a k. still_below a m n k (omega arith)) h

-- what holds of the actions of a use holds with one action more
pub acts_same : (p : ActionRow → Bool) (actions : List ActionRow) (more : ActionRow) (acts : List ℕ)
    → all_below (length actions) acts ≡ true → list_all (λ a. p (slice_index_or actions a no_action)) acts ≡ true
    → list_all (λ a. p (slice_index_or (actions ++ more ∷ []) a no_action)) acts ≡ true
acts_same p actions more [] b h = refl
acts_same p actions more (a ∷ acts) b h =
    let k = and_parts (nat_lt a (length actions)) (all_below (length actions) acts) b in
    let q = and_parts (p (slice_index_or actions a no_action)) (list_all (λ a. p (slice_index_or actions a no_action)) acts) h in
    rw (same_action actions more a (ltb-true _ _ k.0), q.0, acts_same p actions more acts k.1 q.1) refl

-- ---- the actions are there

abbrev pub uses_there : List ActionRow → List DeclaredGraph → NestRow → Bool
uses_there actions graphs row = all_below (length actions) row.actions

pub one_longer : (actions : List ActionRow) (more : ActionRow) → length actions < length (actions ++ more ∷ [])
one_longer actions more = let n : length (actions ++ more ∷ []) ≡ length actions + 1 = length-append actions (more ∷ []) in omega arith

pub there_test : IsNestTest uses_there
there_test = record {
  nested = λ names d a nest action roles none.
      let k = then_known (is_action d action) (list_all (is_among a.roles) roles) (known d a (form.Nest nest action roles) none) in
      rw k.0 refl;
  mapped = λ actions graphs row i x h. h;
  undone = λ actions graphs row x h. h;
  failed = λ actions graphs row x h. h;
  alternated = λ d a nest action none h.
      let k = two_known (is_among a.nest_names nest) (is_action d action) (known d a (form.Alternate nest action) none) in
      all_push (λ a. nat_lt a (length d.actions)) (nest_of a nest).row.actions _ h k.1;
  one_action = λ actions graphs action row h. below_more (length actions) _ row.actions (one_longer actions action) h;
  one_graph = λ actions graphs graph row h. h;
}

-- ---- the roles are filled, each by another role

abbrev fits_roles : NestRow → ActionRow → Bool
fits_roles row action = length row.roles == length action.roles

abbrev pub uses_filled : List ActionRow → List DeclaredGraph → NestRow → Bool
uses_filled actions graphs row =
    all_below (length actions) row.actions &&
    (all_differ row.roles && list_all (λ a. fits_roles row (slice_index_or actions a no_action)) row.actions)

pub eqb_turn : (a b : ℕ) → (a == b) ≡ true → (b == a) ≡ true
eqb_turn a b h = eq-eqb b a (sym (eqb-true a b h))

pub filled_test : IsNestTest uses_filled
filled_test = record {
  nested = λ names d a nest action roles none.
      let k = then_known (is_action d action) (list_all (is_among a.roles) roles) (known d a (form.Nest nest action roles) none) in
      let apart : all_differ (map (λ r. index_of r a.roles) roles) ≡ true =
      differ_mapped a.roles roles (not-false _ (differing d a (form.Nest nest action roles) none)) k.1 in
      let f : (length (map (λ r. index_of r a.roles) roles) == length (action_of d action).roles) ≡ true =
      rw length-map
      (eqb_turn (length (action_of d action).roles) (length roles) (not-false _ (filled d a (form.Nest nest action roles) none))) in
      rw (k.0, apart, f) refl;
  mapped = λ actions graphs row i x h. h;
  undone = λ actions graphs row x h. h;
  failed = λ actions graphs row x h. h;
  alternated = λ d a nest action none h.
      let row = (nest_of a nest).row in
      let k = two_known (is_among a.nest_names nest) (is_action d action) (known d a (form.Alternate nest action) none) in
      let p = and_parts (all_below (length d.actions) row.actions) _ h in
      let q = and_parts (all_differ row.roles) _ p.1 in
      let f =
      eqb_turn (length (action_of d action).roles) (length row.roles) (not-false _ (filled d a (form.Alternate nest action) none)) in
      rw (
        all_push (λ a. nat_lt a (length d.actions)) row.actions (index_of action d.action_names) p.0 k.1,
        q.0,
        all_push (λ a. fits_roles row (slice_index_or d.actions a no_action)) row.actions (index_of action d.action_names) q.1 f,
      ) refl;
  one_action = λ actions graphs action row h.
      let p = and_parts (all_below (length actions) row.actions) _ h in
      let q = and_parts (all_differ row.roles) _ p.1 in
      rw (
        below_more (length actions) _ row.actions (one_longer actions action) p.0,
        q.0,
        acts_same (fits_roles row) actions action row.actions p.0 q.1,
      ) refl;
  one_graph = λ actions graphs graph row h. h;
}

-- ---- they tell the same exceptions outside

abbrev pub face_in : List ActionRow → List ℕ → ℕ
face_in actions acts = (slice_index_or actions (slice_index_or acts 0 0) no_action).interface

abbrev tells : ℕ → ActionRow → Bool
tells face action = action.interface == face

abbrev pub one_face : List ActionRow → List ℕ → Bool
one_face actions acts =
    all_below (length actions) acts && list_all (λ a. tells (face_in actions acts) (slice_index_or actions a no_action)) acts

abbrev pub uses_faced : List ActionRow → List DeclaredGraph → NestRow → Bool
uses_faced actions graphs row = one_face actions row.actions

one_face_more : (actions : List ActionRow) (acts : List ℕ) (a : ℕ) → nat_lt a (length actions) ≡ true
    → tells (face_in actions acts) (slice_index_or actions a no_action) ≡ true → one_face actions acts ≡ true
    → one_face actions (acts ++ a ∷ []) ≡ true
one_face_more actions [] a l f h =
    let face = (slice_index_or actions a no_action).interface in
    rw (l, eq-eqb face face refl) refl
one_face_more actions (b ∷ acts) a l f h =
    let p = and_parts (all_below (length actions) (b ∷ acts)) _ h in
    rw (
      all_push (λ a. nat_lt a (length actions)) (b ∷ acts) a p.0 l,
      all_push (λ a. tells (face_in actions (b ∷ acts)) (slice_index_or actions a no_action)) (b ∷ acts) a p.1 f,
    ) refl

one_face_longer : (actions : List ActionRow) (action : ActionRow) (acts : List ℕ) → one_face actions acts ≡ true
    → one_face (actions ++ action ∷ []) acts ≡ true
one_face_longer actions action [] h = refl
one_face_longer actions action (b ∷ acts) h =
    let p = and_parts (all_below (length actions) (b ∷ acts)) _ h in
    let k = and_parts (nat_lt b (length actions)) (all_below (length actions) acts) p.0 in
    let e : face_in (actions ++ action ∷ []) (b ∷ acts) ≡ face_in actions (b ∷ acts) =
    ap (λ (a : ActionRow). a.interface) (same_action actions action b (ltb-true _ _ k.0)) in
    and_from _ _ (below_more (length actions) _ (b ∷ acts) (one_longer actions action) p.0)
    (subst (λ (face : ℕ). list_all (λ a. tells face (slice_index_or (actions ++ action ∷ []) a no_action)) (b ∷ acts) ≡ true)
    (sym e) (acts_same (tells (face_in actions (b ∷ acts))) actions action (b ∷ acts) p.0 p.1))

pub faced_test : IsNestTest uses_faced
faced_test = record {
  nested = λ names d a nest action roles none.
      let k = then_known (is_action d action) (list_all (is_among a.roles) roles) (known d a (form.Nest nest action roles) none) in
      rw (k.0, eq-eqb (action_of d action).interface (action_of d action).interface refl) refl;
  mapped = λ actions graphs row i x h. h;
  undone = λ actions graphs row x h. h;
  failed = λ actions graphs row x h. h;
  alternated = λ d a nest action none h.
      let k = two_known (is_among a.nest_names nest) (is_action d action) (known d a (form.Alternate nest action) none) in
      one_face_more d.actions (nest_of a nest).row.actions (index_of action d.action_names) k.1
      (not-false _ (faced d a (form.Alternate nest action) none)) h;
  one_action = λ actions graphs action row h. one_face_longer actions action row.actions h;
  one_graph = λ actions graphs graph row h. h;
}
