-- Small words on tests and lists that invariants and proofs count with.
use Rattle.std.specs.Prelude.{ℕ, ◌≤◌, Bool, true, false, List, [], ◌∷◌, suc}

-- 1 where the test passes, else 0
abbrev pub one_if : Bool → ℕ
one_if true = 1
one_if false = 0

-- the numbers rise, from low on
abbrev pub Rises : ℕ → List ℕ → Type 0
Rises low [] = Unit {0}
Rises low (x ∷ xs) = (low ≤ x) × Rises (suc x) xs
