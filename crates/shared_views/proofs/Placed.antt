-- Observers that are given places.
use Rattle.std.proofs.Common.{◌≡◌, ℕ, ℤ, zero, suc, suc-le-suc, ◌<◌, List, [], ◌∷◌, length, map, get_or, replicate, All, refl, ap, ◌∙◌, arith}
use Rattle.logbook.specs.Pages.{Book}
use Rattle.shared_views.specs.Publications.{Known}
use Rattle.shared_views.specs.Committing.{Watching, placeless, unplaced}

-- the list of an observer, where those of all were this one before some got places
pub book_at : (b : Book) (now was : List Watching) (i : ℕ) (d : Watching) → map placeless now ≡ map placeless was
    → All (λ o. o.known.book ≡ b) was → i < length now → (get_or now i d).known.book ≡ b
book_at b [] was i d same all low = absurd (omega (arith, low))
book_at b (x ∷ xs) [] i d same all low = absurd (cc same)
book_at b (x ∷ xs) (y ∷ ys) zero d same all low =
    let heads : placeless x ≡ placeless y = cc same in ap (λ o. o.known.book) heads ∙ all 0 y (omega arith)
book_at b (x ∷ xs) (y ∷ ys) (suc i) d same all low =
    book_at b xs ys i d (cc same) (λ k e h. all (suc k) e (suc-le-suc h)) (omega (arith, low))

all_placeless : (n : ℕ) (o : Watching) → map placeless (replicate n o) ≡ replicate n (placeless o)
all_placeless zero o = refl
all_placeless (suc n) o = ap (λ os. placeless o ∷ os) (all_placeless n o)

-- so many observers that were alike before some got places are still alike but for these
pub still_alike : (n : ℕ) (now was : List Watching) (a b : List ℤ) (k l : Known) → map placeless now ≡ map placeless was
    → was ≡ replicate n (unplaced a k) → a ≡ b → k ≡ l
    → map placeless now ≡ replicate n (unplaced b l)
still_alike n now was a b k l same all initials known =
    let first : Watching = unplaced a k in
    let one : first ≡ unplaced b l =
    λ i. unplaced (initials i) (known i) in
    same ∙ (ap (map placeless) all ∙ (all_placeless n first ∙ ap (replicate n) one))
