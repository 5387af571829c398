-- The least cover of some exceptions, as a number.
use Rattle.std.specs.Prelude.{ℕ, Bool, not, ◌&&◌, ◌||◌, if◌then◌else◌, List, [], ◌∷◌}
use Rattle.std.specs.List.{list_all, range_with_len}
use Rattle.cover_table.specs.Cover.{CoverOrder, covers, covers_each}

-- x covers each of xs, and whatever covers each of them covers x
abbrev pub is_least : CoverOrder → List ℕ → ℕ → Bool
is_least order xs x =
    covers_each order x xs && list_all (λ y. not (covers_each order y xs) || covers order y x) (range_with_len 0 order.count)

-- the first number of a list that passes a test, or else 0
abbrev pub first_such : (ℕ → Bool) → List ℕ → ℕ
first_such test [] = 0
first_such test (x ∷ xs) = if test x then x else first_such test xs

-- the least cover of some exceptions
abbrev pub least_cover : CoverOrder → List ℕ → ℕ
least_cover order xs = first_such (is_least order xs) (range_with_len 0 order.count)
