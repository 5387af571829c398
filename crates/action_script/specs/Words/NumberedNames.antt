-- How the names of a script are numbered: one that is new where it stands goes behind those that came before it.
use Rattle.std.specs.Prelude.{ℕ, ◌+◌, Bool, if◌then◌else◌, List, [], ◌∷◌, ◌++◌, bytes_eq}
use Rattle.std.specs.List.{list_any}

-- a word is among these names
abbrev pub is_among : List (List ℕ) → List ℕ → Bool
is_among names word = list_any (bytes_eq word) names

-- the names with this one, which goes last where it isn't there already
abbrev pub with_name : List (List ℕ) → List ℕ → List (List ℕ)
with_name names word = if is_among names word then names else names ++ word ∷ []

-- the names with each of these words in turn
abbrev pub with_names : List (List ℕ) → List (List ℕ) → List (List ℕ)
with_names names [] = names
with_names names (word ∷ words) = with_names (with_name names word) words

-- the place of a name among these, counted from 0
abbrev pub number_in : List (List ℕ) → List ℕ → ℕ
number_in [] word = 0
number_in (name ∷ names) word = if bytes_eq word name then 0 else 1 + number_in names word
