-- Lists all of whose members pass a test, and one member that changes.
use Rattle.std.proofs.Common.{◌≡◌, ℕ, suc, zero, Bool, true, List, [], ◌∷◌, ◌++◌, map, length, slice_index_or, slice_set, refl, length-set}
use Rattle.std.proofs.lemmas.List.{length-map}
use Rattle.std.specs.List.{list_all}
use Rattle.std.proofs.lemmas.Bool.{and_parts, and_from}
use Rattle.place_plan.specs.declared.drafts.draft_rows.NestRow.{NestRow}
use Rattle.script_checker.specs.declared.open_action.OpenNest.{OpenNest}
use Rattle.script_checker.specs.DeclaredSoFar.{nest_rows}

-- a member that passes is replaced by what still passes
pub all_change : {A : Type 0} (test : A → Bool) (change : A → A) (xs : List A) (i : ℕ) (d : A)
    → ((x : A) → test x ≡ true → test (change x) ≡ true) → list_all test xs ≡ true
    → list_all test (slice_set xs i (change (slice_index_or xs i d))) ≡ true
all_change test change [] i d keeps h = refl
all_change test change (x ∷ xs) zero d keeps h =
    let p = and_parts (test x) (list_all test xs) h in
    rw (keeps x p.0, p.1) refl
all_change test change (x ∷ xs) (suc i) d keeps h =
    let p = and_parts (test x) (list_all test xs) h in
    rw (p.0, all_change test change xs i d keeps p.1) refl

-- each of them passes
pub all_mapped : {A B : Type 0} (test : B → Bool) (f : A → B) (xs : List A) → ((x : A) → test (f x) ≡ true)
    → list_all test (map f xs) ≡ true
all_mapped test f [] h = refl
all_mapped test f (x ∷ xs) h = rw (h x, all_mapped test f xs h) refl

-- a member is replaced by what passes where it does
pub all_set : {A : Type 0} (test : A → Bool) (xs : List A) (i : ℕ) (d y : A) → (test (slice_index_or xs i d) ≡ true → test y ≡ true)
    → list_all test xs ≡ true → list_all test (slice_set xs i y) ≡ true
all_set test [] i d y keeps h = refl
all_set test (x ∷ xs) zero d y keeps h =
    let p = and_parts (test x) (list_all test xs) h in
    rw (keeps p.0, p.1) refl
all_set test (x ∷ xs) (suc i) d y keeps h =
    let p = and_parts (test x) (list_all test xs) h in
    rw (p.0, all_set test xs i d y keeps p.1) refl

-- one member more that passes
pub all_push : {A : Type 0} (test : A → Bool) (xs : List A) (x : A) → list_all test xs ≡ true → test x ≡ true
    → list_all test (xs ++ x ∷ []) ≡ true
all_push test [] x h e = rw e refl
all_push test (y ∷ ys) x h e =
    let p = and_parts (test y) (list_all test ys) h in
    rw (p.0, all_push test ys x p.1 e) refl

-- the rows of nested uses pass a test that they pass in them
pub all_rows : (test : NestRow → Bool) (nests : List OpenNest) → list_all (λ (nest : OpenNest). test nest.row) nests ≡ true
    → list_all test (nest_rows nests) ≡ true
all_rows test [] h = refl
all_rows test (nest ∷ nests) h =
    let p = and_parts (test nest.row) (list_all (λ (nest : OpenNest). test nest.row) nests) h in
    and_from _ _ p.0 (all_rows test nests p.1)

-- ---- how many there are

pub many_set : {A : Type 0} (xs : List A) (i : ℕ) (y : A) → length (slice_set xs i y) ≡ length xs
many_set xs i y = length-set xs i y

pub many_mapped : {A B : Type 0} (f : A → B) (xs : List A) → length (map f xs) ≡ length xs
many_mapped f xs = length-map xs f
