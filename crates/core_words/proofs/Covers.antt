-- The least cover of a list, by joining its numbers one after another.
use Rattle.std.proofs.Common.{◌≡◌, ℕ, ◌<◌, true, ◌&&◌, List, [], ◌∷◌, Option, Some, None, refl, subst, sym}
use Rattle.std.specs.List.{All}
use Rattle.std.proofs.lemmas.Bool.{and_parts, and_from}
use Rattle.std.proofs.lemmas.List.Elements.{All-head, All-tail}
use Rattle.cover_table.specs.Cover.{CoverOrder, covers, covers_each, IsLeastCover, IsSound}
use Rattle.core_words.specs.Joining.{as_list, IsCoverOf}

module _ (order : CoverOrder) (sound : IsSound order) where
  -- what covers a number covers all that it covers
  covers_on : (m c : ℕ) (xs : List ℕ) → m < order.count → c < order.count → All (λ x. x < order.count) xs
      → covers order m c ≡ true → covers_each order c xs ≡ true → covers_each order m xs ≡ true
  covers_on m c [] m_in c_in fit over each = refl
  covers_on m c (x ∷ xs) m_in c_in fit over each =
      let parts = and_parts (covers order c x) (covers_each order c xs) each in
      and_from (covers order m x) (covers_each order m xs)
      (sound.is_order.transitive m c x m_in c_in (All-head (λ x. x < order.count) x xs fit) over parts.0)
      (covers_on m c xs m_in c_in (All-tail (λ x. x < order.count) x xs fit) over parts.1)

  -- the least cover of a number and of the least cover of others is that of them all
  least_more : (x c m : ℕ) (xs : List ℕ) → All (λ x. x < order.count) xs → IsLeastCover order xs c
      → IsLeastCover order (x ∷ c ∷ []) m → IsLeastCover order (x ∷ xs) m
  least_more x c m xs fit former both =
      let parts = and_parts (covers order m x) (covers order m c && true) both.above in
      let last = and_parts (covers order m c) true parts.1 in
      record {
        in_range = both.in_range;
        above =
            and_from (covers order m x) (covers_each order m xs) parts.0
            (covers_on m c xs both.in_range former.in_range fit last.0 former.above);
        least = λ y y_in each.
            let over = and_parts (covers order y x) (covers_each order y xs) each in
            both.least y y_in (and_from (covers order y x) (covers order y c && true) over.0
            (and_from (covers order y c) true (former.least y y_in over.1) refl));
      }

  -- the cover so far, joined with one more number
  pub joined_more : (x m : ℕ) (cover : Option ℕ) (xs : List ℕ) → All (λ x. x < order.count) xs
      → IsCoverOf order xs cover → IsLeastCover order (x ∷ as_list cover) m → IsLeastCover order (x ∷ xs) m
  joined_more x m None xs fit none least = subst (λ (l : List ℕ). IsLeastCover order (x ∷ l) m) (sym none) least
  joined_more x m (Some c) xs fit former least = least_more x c m xs fit former.1 least
