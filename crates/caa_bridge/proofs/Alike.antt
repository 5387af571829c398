-- Devices with the same constants are made alike.
use Rattle.std.proofs.Common.{◌≡◌, ℕ, List, [], ◌∷◌, Option, None, Some, refl, ap, sym, ◌∙◌}
use Rattle.line_plant.specs.Devices.{LineDevice, coded, constants_of}
use Rattle.caa_bridge.specs.Wire.{AreMadeAlike}

abbrev first : List (List ℕ) → List ℕ
first [] = []
first (x ∷ xs) = x

abbrev rest : List (List ℕ) → List (List ℕ)
rest [] = []
rest (x ∷ xs) = xs

abbrev decoded : List ℕ → Option (List ℕ)
decoded [] = None
decoded (x ∷ xs) = Some xs

is_decoded : (known : Option (List ℕ)) → decoded (coded known) ≡ known
is_decoded None = refl
is_decoded (Some bytes) = refl

coded_alike : (one other : Option (List ℕ)) → coded one ≡ coded other → one ≡ other
coded_alike one other same = sym (is_decoded one) ∙ ap decoded same ∙ is_decoded other

pub made_alike : {S K : Type 0} (one other : LineDevice S K) → constants_of one ≡ constants_of other → AreMadeAlike one other
made_alike one other same = record {
  names = ap (λ c. rest (rest (rest c))) same;
  fatal = ap (λ c. first (rest (rest c))) same;
  start = coded_alike one.start other.start (ap first same);
  to_come = coded_alike one.to_come other.to_come (ap (λ c. first (rest c)) same);
}
