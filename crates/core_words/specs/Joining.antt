-- The least cover of several exceptions, where there are some.
use Rattle.std.specs.Prelude.{◌≡◌, ℕ, false, List, [], ◌∷◌, Option, Some, None}
use Rattle.cover_table.specs.Cover.{CoverOrder, IsLeastCover}
use Rattle.caa_base.specs.Written.Lists.{is_empty}

-- the number, where there is one
abbrev pub as_list : Option ℕ → List ℕ
as_list None = []
as_list (Some x) = x ∷ []

-- there are none, or this is their least cover
abbrev pub IsCoverOf : CoverOrder → List ℕ → Option ℕ → Type 0
IsCoverOf order xs None = xs ≡ []
IsCoverOf order xs (Some x) = (is_empty xs ≡ false) × IsLeastCover order xs x
