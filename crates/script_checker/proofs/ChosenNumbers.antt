-- The numbers of names that are chosen.
use Rattle.std.proofs.Common.{◌≡◌, ℕ, ◌+◌, ◌<◌, Bool, true, false, cond, List, [], ◌∷◌, refl, arith}
use Rattle.std.proofs.lemmas.Bool.{and_from, lt-ltb}
use Rattle.caa_base.specs.Written.Lists.{member}
use Rattle.place_plan.specs.Drafts.DraftRules.{is_rising, is_rising_above}
use Rattle.script_checker.specs.Numbers.{chosen_from}

-- what holds of both holds of the one that is taken
pub either : {A : Type 0} (P : A → Type 0) (b : Bool) (x y : A) → P x → P y → P (cond b x y)
either P true x y h k = h
either P false x y h k = k

-- ---- chosen numbers rise

pub rises_above : (low n : ℕ) (names xs : List ℕ) → low < n → is_rising_above low (chosen_from n names xs) ≡ true
rises_above low n names [] l = refl
rises_above low n names (x ∷ xs) l =
    either (λ (ys : List ℕ). is_rising_above low ys ≡ true) (member x names) (n ∷ chosen_from (n + 1) names xs)
    (chosen_from (n + 1) names xs)
    (and_from _ _ (lt-ltb low n l) (rises_above n (n + 1) names xs (omega arith)))
    (rises_above low (n + 1) names xs (omega arith))

pub rises : (n : ℕ) (names xs : List ℕ) → is_rising (chosen_from n names xs) ≡ true
rises n names [] = refl
rises n names (x ∷ xs) =
    either (λ (ys : List ℕ). is_rising ys ≡ true) (member x names) (n ∷ chosen_from (n + 1) names xs) (chosen_from (n + 1) names xs)
    (rises_above n (n + 1) names xs (omega arith))
    (rises (n + 1) names xs)
