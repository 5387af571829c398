-- Lists whose elements are alike.
use Rattle.std.proofs.Common.{◌≡◌, ℕ, List, [], ◌∷◌, ◌++◌, length, map, replicate, Option, Some, zero, suc, refl, sym, ap, ◌∙◌, arith}
use Rattle.std.specs.Option.{option_to_list}
use Rattle.std.proofs.lemmas.List.{length-append, map-append}

alike : {X : Type 0} (n : ℕ) (w : X) (xs : List X) (x : X) → xs ++ x ∷ [] ≡ replicate (suc n) w → (xs ≡ replicate n w) × (x ≡ w)
alike zero w [] x is = (refl, cc)
alike zero w (y ∷ ys) x is = let none = ap length is in absurd (omega (arith, none, length-append ys (x ∷ [])))
alike (suc n) w [] x is = let none = ap length is in absurd (omega (arith, none))
alike (suc n) w (y ∷ ys) x is =
    let first : y ≡ w = cc in
    let rest = alike n w ys x (cc is) in
    (cc (first, rest.0), rest.1)

-- where f can tell none from the others, it can't tell the last, nor those before it
pub last_alike : {X Y : Type 0} (f : X → Y) (n : ℕ) (w : Y) (xs ys : List X) (x : X) (r : Option X) → map f xs ≡ replicate (suc n) w
    → xs ≡ ys ++ option_to_list r → r ≡ Some x → (map f ys ≡ replicate n w) × (f x ≡ w)
last_alike f n w xs ys x r all is some =
    let whole : xs ≡ ys ++ x ∷ [] = is ∙ ap (λ o. ys ++ option_to_list o) some in
    alike n w (map f ys) (f x) (sym (map-append f ys (x ∷ [])) ∙ (ap (map f) (sym whole) ∙ all))
