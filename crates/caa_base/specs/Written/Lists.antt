-- Small words on numbers, options and lists.
use Rattle.std.specs.Prelude.{ℕ, ◌==◌, Bool, true, false, if◌then◌else◌, List, [], ◌∷◌, Option, Some, None, zero, suc}
use Rattle.std.specs.List.{list_any}

-- the number is in the list
abbrev pub member : ℕ → List ℕ → Bool
member n xs = list_any (λ x. x == n) xs

-- where the number stands first in the list, or the list's length
abbrev pub index_of : ℕ → List ℕ → ℕ
index_of n [] = zero
index_of n (x ∷ xs) = if x == n then zero else suc (index_of n xs)

-- the option is this number
abbrev pub is_at : Option ℕ → ℕ → Bool
is_at None n = false
is_at (Some m) n = m == n

-- the options are one
abbrev pub same_option : Option ℕ → Option ℕ → Bool
same_option None None = true
same_option None (Some n) = false
same_option (Some m) None = false
same_option (Some m) (Some n) = m == n

-- the first number of the list
abbrev pub first_of : List ℕ → Option ℕ
first_of [] = None
first_of (x ∷ xs) = Some x

-- the number after the first n in the list
abbrev pub next_after : ℕ → List ℕ → Option ℕ
next_after n [] = None
next_after n (x ∷ xs) = if x == n then first_of xs else next_after n xs

-- the last number of the list, or this one where it is empty
abbrev pub last_or : ℕ → List ℕ → ℕ
last_or n [] = n
last_or n (x ∷ xs) = last_or x xs

-- the last number of the list
abbrev pub last_of : List ℕ → Option ℕ
last_of [] = None
last_of (x ∷ xs) = Some (last_or x xs)

-- the list has no members
abbrev pub is_empty : {A : Type 0} → List A → Bool
is_empty [] = true
is_empty (x ∷ xs) = false

-- the first number that fails a test
abbrev pub first_not : (ℕ → Bool) → List ℕ → Option ℕ
first_not test [] = None
first_not test (x ∷ xs) = if test x then first_not test xs else Some x
