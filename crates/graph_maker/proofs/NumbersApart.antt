-- Exceptions of names of their own have numbers of their own, so that each is new where it is declared, and found where it is covered.
use Rattle.std.proofs.Common.{◌≡◌, ◌≢◌, ℕ, zero, suc, ◌<◌, ◌≤◌, Bool, true, false, if◌then◌else◌, List, [], ◌∷◌, ◌++◌, length, map, get_or, slice_index, nat_lt, All, refl, sym, ap, ◌∙◌, subst, arith}
use Rattle.std.specs.List.{list_all}
use Rattle.std.proofs.lemmas.Bool.{and_parts, eq-eqb, le-ltb, ne_eqb}
use Rattle.std.proofs.lemmas.List.{append_assoc, get_or_append_left, get_or_at, get_or-map, length-append, length-map}
use Rattle.std.proofs.lemmas.List.Elements.{All-head, All-tail}
use Rattle.caa_base.specs.Written.Lists.{index_of}
use Rattle.caa_base.specs.Written.Names.{name_at}
use Rattle.action_script.specs.Words.NumberedNames as words
use Rattle.action_script.specs.Words.NumberedNames.{number_in}
use Rattle.action_script.proofs.OnForms.Fits.{name-number}
use Rattle.graph_maker.specs.MadeScripts.{HaveOwnNames}
use Rattle.graph_maker.proofs.Distinct.{absent, present}
use Rattle.graph_maker.proofs.OneGraph.{Fresh, Placed}

-- ---- numbers of names

-- no two of these numbers are one
abbrev pub AreApart : List ℕ → Type 0
AreApart numbers = (a b : ℕ) → a < b → b < length numbers → get_or numbers a 0 ≢ get_or numbers b 0

module _ (names : List (List ℕ)) where
  -- a word that is there has the number of no other
  number_apart : (word other : List ℕ) → words.is_among names word ≡ true → number_in names other ≡ number_in names word → other ≡ word
  number_apart word other there same = by (words.is_among names other) refl
    where
      by : (b : Bool) → words.is_among names other ≡ b → other ≡ word
      by true e = sym (name-number names other e) ∙ ap (λ n. get_or names n []) same ∙ name-number names word there
      by false e =
          let past = absent names other e in
          let less = present names word there in
          absurd (omega (arith, past, less, same))

  among_at : (some : List (List ℕ)) (k : ℕ) → list_all (words.is_among names) some ≡ true → k < length some
      → words.is_among names (get_or some k []) ≡ true
  among_at [] k all within = absurd (omega (arith, within))
  among_at (word ∷ some) zero all within = (and_parts (words.is_among names word) (list_all (words.is_among names) some) all).0
  among_at (word ∷ some) (suc k) all within =
      among_at some k (and_parts (words.is_among names word) (list_all (words.is_among names) some) all).1 (omega (arith, within))

  -- words that differ have numbers that differ, where all but the first are there
  pub numbers_apart : (first : List ℕ) (some : List (List ℕ)) → list_all (words.is_among names) some ≡ true → HaveOwnNames (first ∷ some)
      → AreApart (map (number_in names) (first ∷ some))
  numbers_apart first some there own a zero less within same = absurd (omega (arith, less))
  numbers_apart first some there own a (suc b) less within same =
      let many = length-map some (number_in names) in
      let b_in : b < length some = omega (arith, within, many) in
      let a_in : a < length (first ∷ some) = omega (arith, less, b_in) in
      let mine : get_or (map (number_in names) (first ∷ some)) a 0 ≡ number_in names (name_at (first ∷ some) a) =
      get_or-map (number_in names) (first ∷ some) a [] 0 a_in in
      let yours : get_or (map (number_in names) some) b 0 ≡ number_in names (name_at some b) =
      get_or-map (number_in names) some b [] 0 b_in in
      own a (suc b) less (omega (arith, b_in))
      (number_apart (name_at some b) (name_at (first ∷ some) a) (among_at some b there b_in) (sym mine ∙ same ∙ yours))

-- ---- where they stand

-- a number that none of these is isn't among them
not_there : (numbers : List ℕ) (x : ℕ) → ((k : ℕ) → k < length numbers → get_or numbers k 0 ≢ x) → index_of x numbers ≡ length numbers
not_there [] x none = refl
not_there (y ∷ numbers) x none =
    ap (λ (b : Bool). if b then zero else suc (index_of x numbers)) (ne_eqb y x (none 0 (omega arith)))
    ∙ ap suc (not_there numbers x (λ k within. none (suc k) (omega (arith, within))))

-- each has its place
pub index_apart : (numbers : List ℕ) (k : ℕ) → AreApart numbers → k < length numbers → index_of (get_or numbers k 0) numbers ≡ k
index_apart [] k apart within = absurd (omega (arith, within))
index_apart (x ∷ numbers) zero apart within = ap (λ (b : Bool). if b then zero else suc (index_of x numbers)) (eq-eqb x x refl)
index_apart (x ∷ numbers) (suc k) apart within =
    let y = get_or numbers k 0 in
    ap (λ (b : Bool). if b then zero else suc (index_of y numbers)) (ne_eqb x y (apart 0 (suc k) (omega arith) within))
    ∙ ap suc
    (index_apart numbers k (λ a b less below. apart (suc a) (suc b) (omega (arith, less)) (omega (arith, below))) (omega (arith, within)))

-- each is new behind those before it
pub fresh : (done todo : List ℕ) → AreApart (done ++ todo) → length (done ++ todo) ≤ 128 → Fresh done todo
fresh done [] apart few = tt
fresh done (x ∷ todo) apart few =
    let long = length-append done (x ∷ todo) in
    let moved : (done ++ x ∷ []) ++ todo ≡ done ++ x ∷ todo = append_assoc done (x ∷ []) todo in
    let last : index_of x done ≡ length done = not_there done x (λ k within same.
    apart k (length done) within (omega (arith, long))
    (get_or_append_left done (x ∷ todo) 0 k within ∙ same ∙ sym (get_or_at done x todo 0 (length done) refl))) in (
      ap (λ k. nat_lt k (length done)) last ∙ le-ltb (length done) (length done) (omega arith),
      omega (arith, long, few),
      fresh (done ++ x ∷ []) todo (subst AreApart (sym moved) apart) (subst (λ (l : List ℕ). length l ≤ 128) (sym moved) few),
    )

-- a number from 1 on that is below this one
abbrev pub IsInside : ℕ → ℕ → Type 0
IsInside count k = (0 < k) × (k < count)

-- pairs of exceptions from 1 on are found at their places, whatever stands in the place of the first number
pub placed : (other first : ℕ) (own : List ℕ) (pairs : List (ℕ × ℕ)) → AreApart (first ∷ own)
    → All (λ (p : ℕ × ℕ). IsInside (length (first ∷ own)) p.0 × IsInside (length (first ∷ own)) p.1) pairs → Placed (other ∷ own)
    (first ∷ own) pairs
placed other first own [] apart inside = tt
placed other first own (p ∷ pairs) apart inside =
    let P : ℕ × ℕ → Type 0 = λ (p : ℕ × ℕ). IsInside (length (first ∷ own)) p.0 × IsInside (length (first ∷ own)) p.1 in
    let here = All-head P p pairs inside in
    (at p.0 here.0, at p.1 here.1, placed other first own pairs apart (All-tail P p pairs inside))
  where
    at : (k : ℕ) → IsInside (length (first ∷ own)) k
        → (index_of (slice_index (other ∷ own) k) (first ∷ own) ≡ k) × (k < length (first ∷ own))
    at zero is = absurd (let some = is.0 in omega (arith, some))
    at (suc k) is = (index_apart (first ∷ own) (suc k) apart is.1, is.1)
