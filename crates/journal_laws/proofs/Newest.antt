-- The exception of the newest entry that passes a test, and whether one passes at all.
use Rattle.std.proofs.Common.{◌≡◌, ℕ, Bool, true, false, cond, ◌||◌, List, [], ◌∷◌, Some, None, refl}
use Rattle.std.specs.List.{list_any}
use Rattle.std.proofs.lemmas.Bool.{false≢true}
use Rattle.caa_base.specs.declared.written.entry.Entry.{Entry}
use Rattle.caa_base.specs.declared.written.entry.Kind.TheVariants as kind
use Rattle.place_plan.specs.RulesOfJournals.Entries.{is_by, has, is_in}
use Rattle.place_plan.specs.RulesOfJournals.Raising.{newest_arg, has_handled}
use Rattle.place_plan.specs.RulesOfJournals.Roles.{is_handling, has_given_after}

-- where the newest has an exception, one stands
pub newest_stands : (test : Entry → Bool) (past : List Entry) (x : ℕ) → newest_arg test past ≡ Some x → list_any test past ≡ true
newest_stands test [] x h = absurd cc
newest_stands test (e ∷ past) x h = by_test (test e) h (newest_stands test past x)
  where
    by_test : (b : Bool) → cond b (Some e.arg) (newest_arg test past) ≡ Some x
        → (newest_arg test past ≡ Some x → list_any test past ≡ true) → (b || list_any test past) ≡ true
    by_test true h ih = refl
    by_test false h ih = ih h

-- and where one stands, the newest has
pub stands_newest : (test : Entry → Bool) (past : List Entry) → list_any test past ≡ true → (x : ℕ) × (newest_arg test past ≡ Some x)
stands_newest test [] h = absurd (false≢true h)
stands_newest test (e ∷ past) h = by_test (test e) h (stands_newest test past)
  where
    by_test : (b : Bool) → (b || list_any test past) ≡ true
        → (list_any test past ≡ true → (x : ℕ) × (newest_arg test past ≡ Some x))
        → (x : ℕ) × (cond b (Some e.arg) (newest_arg test past) ≡ Some x)
    by_test true h ih = (e.arg, refl)
    by_test false h ih = ih h

-- where none stands there is no exception
pub newest_none : (test : Entry → Bool) (past : List Entry) → list_any test past ≡ false → newest_arg test past ≡ None
newest_none test [] h = refl
newest_none test (e ∷ past) h = by_test (test e) h (newest_none test past)
  where
    by_test : (b : Bool) → (b || list_any test past) ≡ false
        → (list_any test past ≡ false → newest_arg test past ≡ None) → cond b (Some e.arg) (newest_arg test past) ≡ None
    by_test true h ih = absurd cc
    by_test false h ih = ih h

-- who is in its handler has begun one
pub handling_handled : (p t : ℕ) (past : List Entry) → is_handling past p t ≡ true → has_handled past p t ≡ true
handling_handled p t [] h = absurd (false≢true h)
handling_handled p t (e ∷ past) h = by_tests (is_by kind.Handle p t e) (is_by kind.Verdict p t e) h (handling_handled p t past)
  where
    by_tests : (b c : Bool) → cond b true (cond c false (is_handling past p t)) ≡ true
        → (is_handling past p t ≡ true → has_handled past p t ≡ true) → (b || has_handled past p t) ≡ true
    by_tests true c h ih = refl
    by_tests false true h ih = absurd (false≢true h)
    by_tests false false h ih = ih h

-- a verdict after the Resolve needs one
pub given_resolved : (p t : ℕ) (past : List Entry) → has_given_after past p t ≡ true → has kind.Resolve past p ≡ true
given_resolved p t [] h = absurd (false≢true h)
given_resolved p t (e ∷ past) h = by_tests (is_in kind.Resolve p e) (is_by kind.Verdict p t e) h (given_resolved p t past)
  where
    by_tests : (b c : Bool) → cond b false (cond c (has kind.Resolve past p) (has_given_after past p t)) ≡ true
        → (has_given_after past p t ≡ true → has kind.Resolve past p ≡ true) → (b || has kind.Resolve past p) ≡ true
    by_tests true c h ih = refl
    by_tests false true h ih = h
    by_tests false false h ih = ih h
