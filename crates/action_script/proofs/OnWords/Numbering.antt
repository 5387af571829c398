-- The table of names, and the numbers that names have.
use Rattle.std.proofs.Common.{◌≡◌, ℕ, ◌+◌, ◌≤◌, nat_lt, Bool, true, false, ◌||◌, if◌then◌else◌, List, [], ◌∷◌, ◌++◌, length, map, Some, None, position, bytes_eq, Bor, refl, sym, ap, ◌∙◌, arith}
use Rattle.std.specs.List.{list_any, position_or_len}
use Rattle.std.proofs.lemmas.List.Recursion.{is_position_or_len}
use Rattle.std.proofs.lemmas.Bool.{ltb-false}
use Rattle.std.proofs.lemmas.Option.{cond_some}
use Rattle.action_script.specs.Words.NumberedNames.{is_among, with_name, number_in}
use Rattle.action_script.proofs.OnLines.Steadiness.{bytes_eq-same}

-- the bytes of some keys
abbrev pub bytes_of : List (Bor (List ℕ)) → List (List ℕ)
bytes_of keys = map (λ k. k.now) keys

-- ---- the keys of a set, and the names that they are

is_among-keys : (word : List ℕ) (keys : List (Bor (List ℕ))) → list_any (λ k. bytes_eq word k.now) keys ≡ is_among (bytes_of keys) word
is_among-keys word [] = refl
is_among-keys word (k ∷ keys) = ap (λ b. bytes_eq word k.now || b) (is_among-keys word keys)

bytes_of-push : (keys : List (Bor (List ℕ))) (k : Bor (List ℕ)) → bytes_of (keys ++ k ∷ []) ≡ bytes_of keys ++ k.now ∷ []
bytes_of-push [] k = refl
bytes_of-push (x ∷ keys) k = ap (λ l. x.now ∷ l) (bytes_of-push keys k)

with_name-keys : (keys : List (Bor (List ℕ))) (k : Bor (List ℕ)) (b : Bool)
    → bytes_of (if b then keys else keys ++ k ∷ []) ≡ (if b then bytes_of keys else bytes_of keys ++ k.now ∷ [])
with_name-keys keys k true = refl
with_name-keys keys k false = bytes_of-push keys k

-- a key is added to the names as a name is
pub bytes_of-added : (keys : List (Bor (List ℕ))) (k : Bor (List ℕ))
    → bytes_of (if list_any (λ x. bytes_eq k.now x.now) keys then keys else keys ++ k ∷ []) ≡ with_name (bytes_of keys) k.now
bytes_of-added keys k =
    with_name-keys keys k _ ∙ ap (λ b. if b then bytes_of keys else bytes_of keys ++ k.now ∷ []) (is_among-keys k.now keys)

-- the number of a name is the first place of its key
number_in-keys : (word : List ℕ) (keys : List (Bor (List ℕ)))
    → number_in (bytes_of keys) word ≡ position_or_len (λ k. bytes_eq word k.now) keys
number_in-keys word keys = is_position_or_len (λ l. number_in (bytes_of l) word) (λ k. bytes_eq word k.now) refl (λ k l. refl) keys

pub number_in-found : (word : List ℕ) (keys : List (Bor (List ℕ))) (n : ℕ) → position (λ k. bytes_eq word k.now) keys ≡ Some n
    → n ≡ number_in (bytes_of keys) word
number_in-found word keys n h =
    let i = position_or_len (λ k. bytes_eq word k.now) keys in
    let found = cond_some (nat_lt i (length keys)) i n h in
    sym found.1 ∙ sym (number_in-keys word keys)

number_in-last : (names : List (List ℕ)) (word : List ℕ) → number_in (names ++ word ∷ []) word ≡ number_in names word
number_in-last [] word = rw (bytes_eq-same word) refl
number_in-last (name ∷ names) word = ap (λ n. if bytes_eq word name then 0 else 1 + n) (number_in-last names word)

number_in-own : (names : List (List ℕ)) (word : List ℕ) → number_in (with_name names word) word ≡ number_in names word
number_in-own names word = by (is_among names word)
  where
    by : (b : Bool) → number_in (if b then names else names ++ word ∷ []) word ≡ number_in names word
    by true = refl
    by false = number_in-last names word

-- a name that is added has the first place of its key
pub number_in-added : (word : List ℕ) (keys : List (Bor (List ℕ)))
    → position_or_len (λ k. bytes_eq word k.now) keys ≡ number_in (with_name (bytes_of keys) word) word
number_in-added word keys = sym (number_in-own (bytes_of keys) word ∙ number_in-keys word keys)

-- a name that isn't there has the number of names
number_in-within : (names : List (List ℕ)) (word : List ℕ) → number_in names word ≤ length names
number_in-within [] word = omega arith
number_in-within (name ∷ names) word = by (bytes_eq word name) (number_in-within names word)
  where
    by : (b : Bool) → number_in names word ≤ length names → (if b then 0 else 1 + number_in names word) ≤ length (name ∷ names)
    by true h = omega arith
    by false h = omega arith

none_is_past : (b : Bool) (i : ℕ) → (if b then Some i else None) ≡ None → b ≡ false
none_is_past true i h = cc
none_is_past false i h = refl

length-bytes_of : (keys : List (Bor (List ℕ))) → length (bytes_of keys) ≡ length keys
length-bytes_of [] = refl
length-bytes_of (k ∷ keys) = grind (arith, length-bytes_of keys)

pub number_in-absent : (word : List ℕ) (keys : List (Bor (List ℕ))) → None ≡ position (λ k. bytes_eq word k.now) keys
    → length keys ≡ number_in (bytes_of keys) word
number_in-absent word keys h =
    let i = position_or_len (λ k. bytes_eq word k.now) keys in
    let past = ltb-false i (length keys) (none_is_past (nat_lt i (length keys)) i (sym h)) in
    omega (arith, past, number_in-keys word keys, number_in-within (bytes_of keys) word, length-bytes_of keys)
