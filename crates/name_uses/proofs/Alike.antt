-- Names that are what others have become.
use Rattle.std.proofs.Common.{◌≡◌, ℕ, zero, suc, ◌<◌, Bool, false, List, [], ◌∷◌, drop, length, refl, sym, ap, ◌∙◌, arith}
use Rattle.name_uses.specs.declared.thing.Thing.{Thing}
use Rattle.name_uses.specs.declared.occurrences.Occurrence.{Occurrence}
use Rattle.name_uses.specs.Renamed.{are_renamed}

empty_of : (l : List Occurrence) → length l ≡ 0 → l ≡ []
empty_of [] none = refl
empty_of (o ∷ l) none = absurd (omega (arith, none))

none_of : (thing : Thing) (word : List ℕ) (names others : List (List ℕ)) (old : List Occurrence) (i : ℕ) → i < length old
    → are_renamed thing word names others (drop i old) [] ≡ false
none_of thing word names others [] i within = absurd (omega arith)
none_of thing word names others (o ∷ old) zero within = refl
none_of thing word names others (o ∷ old) (suc i) within = none_of thing word names others old i (omega (arith, within))

-- too few have become something
pub too_few : (thing : Thing) (word : List ℕ) (names others : List (List ℕ)) (old rest : List Occurrence) (whole : Bool) (i : ℕ)
    → i < length old → length rest ≡ 0 → are_renamed thing word names others (drop i old) rest ≡ whole → false ≡ whole
too_few thing word names others old rest whole i within none kept =
    sym (none_of thing word names others old i within)
    ∙ ap (λ r. are_renamed thing word names others (drop i old) r) (sym (empty_of rest none)) ∙ kept
