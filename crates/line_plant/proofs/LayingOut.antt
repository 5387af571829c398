-- Lemmas on the line that lays out a device.
use Rattle.std.proofs.Common.{◌≡◌, ℕ, zero, suc, ◌+◌, ◌<◌, ◌≤◌, ℤ, take, get_or, ap₂, List, [], ◌∷◌, ◌++◌, length, decimal, codes, append-nil, refl, ap, sym, ◌∙◌, append_assoc, arith}
use Rattle.std.proofs.lemmas.List.{take_more, length-append}
use Rattle.std.proofs.lemmas.Grind.{common_steps}
use Rattle.std.specs.Fmt.{signed_decimal}
use Rattle.caa_base.specs.Written.Lines.{spaced}
use Rattle.caa_base.specs.Written.Names.{name_at}
use Rattle.line_plant.specs.Lines.{names_and_values, lay_line}
use Rattle.line_plant.specs.inner.Room.{HasRoom}

-- words behind words
pub spaced-append : (xs ys : List (List ℕ)) → spaced (xs ++ ys) ≡ spaced xs ++ spaced ys
spaced-append [] ys = refl
spaced-append (word ∷ xs) ys =
    ap (λ t. 32 ∷ word ++ t) (spaced-append xs ys) ∙ sym (append_assoc (32 ∷ word) (spaced xs) (spaced ys))

-- one more object
pub one_more : (names : List (List ℕ)) (values : List ℤ) (name : List ℕ) (value : ℤ) → length names ≡ length values
    → names_and_values (names ++ name ∷ []) (values ++ value ∷ []) ≡ names_and_values names values ++ name ∷ signed_decimal value ∷ []
one_more [] [] name value same = refl
one_more [] (v ∷ values) name value same = grind (arith, common_steps, same)
one_more (n ∷ names) [] name value same = grind (arith, common_steps, same)
one_more (n ∷ names) (v ∷ values) name value same =
    ap (λ words. n ∷ signed_decimal v ∷ words) (one_more names values name value (grind (arith, common_steps, same)))

-- the words of one more object behind those of the others
pub spaced_more : (names : List (List ℕ)) (values : List ℤ) (name : List ℕ) (value : ℤ) → length names ≡ length values
    → spaced (names_and_values (names ++ name ∷ []) (values ++ value ∷ []))
    ≡ spaced (names_and_values names values) ++ spaced (name ∷ []) ++ spaced (signed_decimal value ∷ [])
spaced_more names values name value same =
    ap spaced (one_more names values name value same)
    ∙ spaced-append (names_and_values names values) (name ∷ signed_decimal value ∷ [])
    ∙ ap (λ t. spaced (names_and_values names values) ++ t) (spaced-append (name ∷ []) (signed_decimal value ∷ []))
    ∙ sym (append_assoc (spaced (names_and_values names values)) (spaced (name ∷ [])) (spaced (signed_decimal value ∷ [])))

-- the line as far as it was made, with one more object
pub line_more : (front : List ℕ) (names : List (List ℕ)) (values : List ℤ) (i : ℕ) (name : List ℕ) (value : ℤ)
    → i < length names → i < length values
    → name ≡ get_or names i name → value ≡ get_or values i value
    → front ++ spaced (names_and_values (take i names) (take i values)) ++ spaced (name ∷ []) ++ spaced (signed_decimal value ∷ [])
    ≡ front ++ spaced (names_and_values (take (i + 1) names) (take (i + 1) values))
line_more front names values i name value low small is_name is_value =
    let words = spaced (names_and_values (take i names) (take i values)) in
    append_assoc (front ++ words) (spaced (name ∷ [])) (spaced (signed_decimal value ∷ []))
    ∙ append_assoc front words (spaced (name ∷ []) ++ spaced (signed_decimal value ∷ []))
    ∙ ap (λ t. front ++ t) (sym (append_assoc words (spaced (name ∷ [])) (spaced (signed_decimal value ∷ [])))
    ∙ sym (spaced_more (take i names) (take i values) name value (grind (arith, common_steps, low, small)))
    ∙ sym (ap₂ (λ ns vs. spaced (names_and_values ns vs))
    (take_more names i name low ∙ ap (λ n. take i names ++ n ∷ []) (sym is_name))
    (take_more values i value small ∙ ap (λ v. take i values ++ v ∷ []) (sym is_value))))

-- the words of all objects are longer than each name by two bytes and more
pub words_behind : (names : List (List ℕ)) (values : List ℤ) (n : ℕ) → length names ≡ length values → n < length names
    → length (name_at names n) + 2 ≤ length (spaced (names_and_values names values))
words_behind [] values n same low = absurd (omega arith)
words_behind (name ∷ names) [] n same low = absurd (omega arith)
words_behind (name ∷ names) (v ∷ values) zero same low = simp length-append (omega arith)
words_behind (name ∷ names) (v ∷ values) (suc n) same low =
    let l = words_behind names values n (omega arith) (omega arith) in simp length-append (omega arith)

-- with room for a longer word, a number and a value behind it, the line that lays out the objects has memory for each put
pub room_for_puts : (names : List (List ℕ)) (values : List ℤ) (room number : ℕ) → length names ≡ length values
    → length (lay_line number names values) + 45 ≤ room → HasRoom (length values) names room
room_for_puts names values room number same enough n low =
    let l = words_behind names values n same (omega arith) in
    let e : length (lay_line number names values) ≡ 5 + length (decimal number) + length (spaced (names_and_values names values)) = simp length-append (omega arith) in
    omega arith

-- the number stands first
pub numbered : (number : ℕ) (words : List (List ℕ))
    → codes "lay" ++ spaced (decimal number ∷ []) ++ spaced words ≡ codes "lay" ++ spaced (decimal number ∷ words)
numbered number words =
    append_assoc (codes "lay") (spaced (decimal number ∷ [])) (spaced words)
    ∙ ap (λ t. codes "lay" ++ 32 ∷ t ++ spaced words) (append-nil (decimal number))
