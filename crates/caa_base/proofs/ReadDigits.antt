-- Numbers that are read digit by digit.
use Rattle.std.proofs.Common.{◌≡◌, ℕ, ◌+◌, ◌-◌, ◌*◌, ◌<◌, ◌≤◌, List, [], ◌∷◌, Some, None, arith}
use Rattle.std.proofs.lemmas.Bool.Decides.{nat_tests}
use Rattle.caa_base.specs.Written.Lines.{digits_after, at_most}

-- more digits never make a number less
pub digits_after-ge : (n : ℕ) (digits : List ℕ) → n ≤ digits_after n digits
digits_after-ge n [] = omega arith
digits_after-ge n (b ∷ rest) = omega (arith, digits_after-ge (10 * n + (b - 48)) rest)

-- a number past the most is none, whatever digits follow
pub at_most-digits_after : (most n : ℕ) (digits : List ℕ) → most < n → at_most most (Some (digits_after n digits)) ≡ None
at_most-digits_after most n digits past = let ge = digits_after-ge n digits in grind (arith, nat_tests)
