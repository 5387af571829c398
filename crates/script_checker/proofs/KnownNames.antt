-- Where each name that a line uses is declared, each by itself is.
use Rattle.std.proofs.Common.{◌≡◌, Bool, true, false, not, ◌&&◌, refl}

-- one name
pub one_known : (a : Bool) → not ((a && true) && true) ≡ false → a ≡ true
one_known true h = refl
one_known false h = absurd cc

-- some names
pub some_known : (a : Bool) → not (a && true) ≡ false → a ≡ true
some_known true h = refl
some_known false h = absurd cc

-- two names
pub two_known : (a b : Bool) → not ((a && true) && ((b && true) && true)) ≡ false → (a ≡ true) × (b ≡ true)
two_known true true h = (refl, refl)
two_known true false h = absurd cc
two_known false b h = absurd cc

-- one name, and then some
pub then_known : (a b : Bool) → not ((a && true) && (b && true)) ≡ false → (a ≡ true) × (b ≡ true)
then_known true true h = (refl, refl)
then_known true false h = absurd cc
then_known false b h = absurd cc

-- the last of three names
pub last_known : (a b c : Bool) → not ((a && true) && ((b && true) && ((c && true) && true))) ≡ false → c ≡ true
last_known true true true h = refl
last_known true true false h = absurd cc
last_known true false c h = absurd cc
last_known false b c h = absurd cc
