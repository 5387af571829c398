-- Rows of what covers each number, and what they come to by one row more.
use Rattle.std.proofs.Common.{◌≡◌, ◌≢◌, ◌<◌, ◌&&◌, ◌||◌, ℕ, Bool, List, true, false, not, refl, length, ◌∙◌}
use Rattle.std.proofs.lemmas.Bool.{eq-eqb, ne_eqb}
use Rattle.std.proofs.Math.Bool.{or-false}
use Rattle.cover_table.specs.Cover.{has_bit, tells}
use Rattle.cover_table.specs.inner.Uppers.{AddsUpper}

module _ (old new : List ℕ) (a row : ℕ) (adds : AddsUpper old new a row) where
  -- bits of other numbers stay
  pub added_other : (b c : ℕ) → b < length old → c ≢ a → tells new b c ≡ tells old b c
  added_other b c b_in apart = rw (ne_eqb c a apart) at (adds.tell b c b_in) ∙ or-false (tells old b c)

  -- and the bit of this one is that of its row
  pub added_same : (b : ℕ) → b < length old → tells old b a ≡ false → tells new b a ≡ has_bit row b
  added_same b b_in none = rw (eq-eqb a a refl, none) at (adds.tell b a b_in)

-- a bit that is both added and taken from the rest
pub added_taken : (first same : Bool)
    → (same || (first || (same && (true && not true)))) ≡ (first || (same && (true && not (true && not true))))
added_taken true true = refl
added_taken true false = refl
added_taken false true = refl
added_taken false false = refl
