use Rattle.std.proofs.Common.{◌≡◌, ◌<◌, ◌^◌, ◌∷◌, ◌++◌, decimal, sym, ◌∙◌, arith}
use Rattle.std.proofs.lemmas.Fmt.{decimal_injective}
use Rattle.journal_text.proofs.OnTexts.WordLemmas.{word-told, whole-decimal}
use Rattle.journal_text.proofs.texts.entry_at.place_at.Goals as goal

pub returns-else-place-places : goal.returns-else-place-places
returns-else-place-places c = λ p rest low gap same.
    let place = c.in_ok-place.place in
    let after = c.in_ok-place.rest.now in
    let read = c.in_ok-place.ensures in
    let known : p < 2 ^ 64 = omega (arith, low, c.places.ensures, c.from-places.ensures) in
    let small : place < 2 ^ 64 = omega (arith, read.0, c.places.ensures, c.from-places.ensures) in
    let both : 32 ∷ decimal place ++ after ≡ 32 ∷ decimal p ++ rest = sym read.2 ∙ same in
    let cut : decimal place ++ after ≡ decimal p ++ rest = cc in
    let told = word-told (decimal place) (decimal p) after rest (whole-decimal place small) (whole-decimal p known) read.1 gap cut in
    let is : place ≡ p = decimal_injective place p small known told.0 in
    omega (arith, is, low, c.places.ensures, c.from-places.ensures)
