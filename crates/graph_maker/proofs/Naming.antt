-- The names that are made for sets, and how they are read.
use Rattle.std.proofs.Common.{◌≡◌, ℕ, zero, suc, ◌+◌, ◌-◌, ◌*◌, ◌/◌, ◌%◌, ◌^◌, ◌<◌, ◌≤◌, ◌==◌, nat_le, nat_lt, Bool, true, false, ◌&&◌, ◌||◌, if◌then◌else◌, List, [], ◌∷◌, ◌++◌, length, map, drop, decimal, Some, None, unwrap_or, inl, inr, refl, sym, ap, ◌∙◌, subst, arith}
use Rattle.std.specs.List.{list_all, flat_map, slice_split, All}
use Rattle.std.proofs.lemmas.Bool.{and_from, and_parts, cases_Bool, eqb-true, eqb-false, le-leb, leb-true, lt-ltb, or_left, or_right}
use Rattle.std.proofs.lemmas.Bool.Decides.{nat_tests}
use Rattle.std.proofs.lemmas.Fmt.{length-decimal-le}
use Rattle.std.proofs.lemmas.List.{append-nil, length-append, length-drop, get_or-drop}
use Rattle.std.proofs.lemmas.List.Elements.{All-cons, All-head, All-tail}
use Rattle.std.proofs.lemmas.List.Folds.{list_all-append}
use Rattle.std.proofs.lemmas.List.Splits.{slice_split_at, slice_split_none}
use Rattle.std.proofs.lemmas.Nat.{mod-pow-add}
use Rattle.std.proofs.Math.Nat.{mod-eq_of_lt}
use Rattle.caa_base.specs.Written.Lines.{at_most}
use Rattle.caa_base.specs.Written.Names.{is_digit, is_letter, is_name, is_name_byte}
use Rattle.cover_table.specs.Cover.{has_bit}
use Rattle.action_script.specs.Words.ScriptWords.{natural_of}
use Rattle.action_script.proofs.OnWords.Numerals.{natural_of-decimal, natural_of-some}
use Rattle.set_graphs.specs.Sets.{sets, size_of, IsSet}
use Rattle.set_graphs.proofs.Halves.{bit_next, even, odd}
use Rattle.set_graphs.proofs.Sizes.{sets_are}
use Rattle.graph_maker.specs.SetNames.{are_numbers, ascend, dashed, goes_on, is_made_name, made_name, member_list, set_name}

-- ---- ascending numbers

-- these numbers ascend, the first is greater than this one, and none is greater than the top
abbrev pub Ascend : ℕ → List ℕ → ℕ → Type 0
Ascend last [] top = last ≤ top
Ascend last (m ∷ ms) top = (last < m) × Ascend m ms top

pub last_low : (last top : ℕ) (ms : List ℕ) → Ascend last ms top → last ≤ top
last_low last top [] up = up
last_low last top (m ∷ ms) up = let less = up.0 in let low = last_low m top ms up.1 in omega (arith, less, low)

raise : (last top higher : ℕ) (ms : List ℕ) → top ≤ higher → Ascend last ms top → Ascend last ms higher
raise last top higher [] more up = omega (arith, more, up)
raise last top higher (m ∷ ms) more up = (up.0, raise m top higher ms more up.1)

one_more : (last top : ℕ) (ms : List ℕ) → Ascend last ms top → Ascend last (ms ++ (top + 1) ∷ []) (top + 1)
one_more last top [] up = (omega (arith, up), omega arith)
one_more last top (m ∷ ms) up = (up.0, one_more m top ms up.1)

-- the members of a set ascend
pub members_ascend : (n set : ℕ) → Ascend 0 (member_list n set) n
members_ascend zero set = omega arith
members_ascend (suc n) set = by (has_bit set n) (members_ascend n set)
  where
    by : (b : Bool) → Ascend 0 (member_list n set) n → Ascend 0 (if b then member_list n set ++ (n + 1) ∷ [] else member_list n set) (suc n)
    by true up =
        let next : n + 1 ≡ suc n = omega arith in
        subst (λ k. Ascend 0 (member_list n set ++ (n + 1) ∷ []) k) next (one_more 0 n (member_list n set) up)
    by false up = raise 0 n (suc n) (member_list n set) (omega arith) up

-- ---- how many members there are

-- one for a bit that is had
abbrev bit_count : Bool → ℕ
bit_count b = if b then 1 else 0

size_last : (n set : ℕ) → size_of (suc n) set ≡ size_of n set + bit_count (has_bit set n)
size_last zero set =
    elim (cases_Bool (has_bit set 0)) [
      | inl had ↦ let one = odd set had in let e = ap bit_count had in omega (arith, one, e)
      | inr not ↦ let none = even set not in let e = ap bit_count not in omega (arith, none, e)
    ]
size_last (suc n) set =
    let rest = size_last n (set / 2) in
    let e = ap bit_count (bit_next set n) in
    omega (arith, rest, e)

pub length-members : (n set : ℕ) → length (member_list n set) ≡ size_of n set
length-members zero set = refl
length-members (suc n) set = by (has_bit set n) refl (length-members n set) ∙ sym (size_last n set)
  where
    by : (b : Bool) → has_bit set n ≡ b → length (member_list n set) ≡ size_of n set
        → length (if b then member_list n set ++ (n + 1) ∷ [] else member_list n set) ≡ size_of n set + bit_count (has_bit set n)
    by true had rest = let e = ap bit_count had in let l = length-append (member_list n set) ((n + 1) ∷ []) in omega (arith, rest, e, l)
    by false not rest = let e = ap bit_count not in omega (arith, rest, e)

-- ---- a set is known by its members

-- the set of these members
abbrev pub set_of : List ℕ → ℕ
set_of [] = 0
set_of (m ∷ ms) = 2 ^ (m - 1) + set_of ms

set_of-push : (ms : List ℕ) (m : ℕ) → set_of (ms ++ m ∷ []) ≡ set_of ms + 2 ^ (m - 1)
set_of-push [] m = omega arith
set_of-push (x ∷ ms) m = let rest = set_of-push ms m in omega (arith, rest)

set_of-members : (n set : ℕ) → set_of (member_list n set) ≡ set % 2 ^ n
set_of-members zero set = omega arith
set_of-members (suc n) set =
    let top = mod-pow-add set 1 n in
    let next : suc n ≡ 1 + n = omega arith in
    by (has_bit set n) refl (set_of-members n set) ∙ sym top ∙ ap (λ k. set % 2 ^ k) (sym next)
  where
    by : (b : Bool) → has_bit set n ≡ b → set_of (member_list n set) ≡ set % 2 ^ n
        → set_of (if b then member_list n set ++ (n + 1) ∷ [] else member_list n set) ≡ (set / 2 ^ n % 2) * 2 ^ n + set % 2 ^ n
    by true had rest =
        let bit = eqb-true (set / 2 ^ n % 2) 1 had in
        let own : n + 1 - 1 ≡ n = omega arith in
        let last = set_of-push (member_list n set) (n + 1) in
        let power = ap (λ k. 2 ^ k) own in
        let one = ap (λ b. b * 2 ^ n + set % 2 ^ n) bit in
        omega (arith, rest, last, power, one)
    by false not rest =
        let apart = eqb-false (set / 2 ^ n % 2) 1 not in
        let bit : set / 2 ^ n % 2 ≡ 0 = omega (arith, apart) in
        let none = ap (λ b. b * 2 ^ n + set % 2 ^ n) bit in
        omega (arith, rest, none)

-- ---- the bytes of a made name

decimal_digits : (m : ℕ) → m < 2 ^ 64 → list_all is_digit (decimal m) ≡ true
decimal_digits m small = (natural_of-some (decimal m) m (natural_of-decimal m small)).digits

digit_named : (b : ℕ) → is_digit b ≡ true → is_name_byte b ≡ true
digit_named b digit = or_right (is_letter b) (is_digit b || ((b == 95) || (b == 45))) (or_left (is_digit b) ((b == 95) || (b == 45)) digit)

digits_named : (word : List ℕ) → list_all is_digit word ≡ true → list_all is_name_byte word ≡ true
digits_named [] digits = refl
digits_named (b ∷ word) digits =
    let p = and_parts (is_digit b) (list_all is_digit word) digits in
    and_from (is_name_byte b) (list_all is_name_byte word) (digit_named b p.0) (digits_named word p.1)

members_named : (last top : ℕ) (ms : List ℕ) → top < 1000 → Ascend last ms top → list_all is_name_byte (flat_map dashed ms) ≡ true
members_named last top [] small up = refl
members_named last top (m ∷ ms) small up =
    let low = last_low m top ms up.1 in
    list_all-append is_name_byte (decimal m) (flat_map dashed ms)
    ∙ and_from (list_all is_name_byte (decimal m)) (list_all is_name_byte (flat_map dashed ms))
    (digits_named (decimal m) (decimal_digits m (omega (arith, low, small))))
    (members_named m top ms small up.1)

members_short : (last top : ℕ) (ms : List ℕ) → top < 1000 → Ascend last ms top → length (flat_map dashed ms) ≤ 4 * length ms
members_short last top [] small up = omega arith
members_short last top (m ∷ ms) small up =
    let low = last_low m top ms up.1 in
    let digits = length-decimal-le 3 m (omega arith) (omega (arith, low, small)) (omega (arith, low, small)) in
    let rest = members_short m top ms small up.1 in
    let both = length-append (decimal m) (flat_map dashed ms) in
    omega (arith, digits, rest, both)

-- a made name is a name
pub made_named : (top : ℕ) (ms : List ℕ) → top < 1000 → Ascend 0 ms top → length ms ≤ 7 → is_name (made_name ms) ≡ true
made_named top ms small up few =
    let rest = members_short 0 top ms small up in
    and_from (nat_le (length (made_name ms)) 32) (list_all is_name_byte (flat_map dashed ms))
    (le-leb (length (made_name ms)) 32 (omega (arith, rest, few)))
    (members_named 0 top ms small up)

pub set_named : (n most set : ℕ) → n < 128 → most < 8 → IsSet n most set → is_name (set_name n set) ≡ true
set_named n most set small low is =
    let few = is.few in
    let size = length-members n set in
    made_named n (member_list n set) (omega (arith, small)) (members_ascend n set) (omega (arith, few, size, low))

pub sets_named : (n most : ℕ) (some : List ℕ) → n < 128 → most < 8 → All (IsSet n most) some
    → list_all is_name (map (set_name n) some) ≡ true
sets_named n most [] small low are = refl
sets_named n most (set ∷ some) small low are =
    and_from (is_name (set_name n set)) (list_all is_name (map (set_name n) some))
    (set_named n most set small low (All-head (IsSet n most) set some are))
    (sets_named n most some small low (All-tail (IsSet n most) set some are))

pub larger_are : (n most : ℕ) → All (IsSet n most) (drop n (sets n most))
larger_are n most k d within =
    let long = length-drop n (sets n most) in
    subst (IsSet n most) (sym (get_or-drop n (sets n most) k d)) (sets_are n most (n + k) d (omega (arith, within, long)))

-- ---- a made name is read

digit_no_dash : (b : ℕ) → is_digit b ≡ true → (b == 45) ≡ false
digit_no_dash b digit = let p = and_parts (nat_le 48 b) (nat_le b 57) digit in let low = leb-true 48 b p.0 in grind (arith, nat_tests)

no_dash : (word : List ℕ) → list_all is_digit word ≡ true → All (λ b. (b == 45) ≡ false) word
no_dash [] digits = λ k d l. absurd (omega (arith, l))
no_dash (b ∷ word) digits =
    let p = and_parts (is_digit b) (list_all is_digit word) digits in
    All-cons (λ b. (b == 45) ≡ false) b word (digit_no_dash b p.0) (no_dash word p.1)

cut_members : (m last top : ℕ) (ms : List ℕ) → m < 2 ^ 64 → top < 2 ^ 64 → Ascend last ms top
    → slice_split (λ b. b == 45) (decimal m ++ flat_map dashed ms) ≡ decimal m ∷ map decimal ms
cut_members m last top [] small low up =
    ap (slice_split (λ b. b == 45)) (append-nil (decimal m)) ∙ slice_split_none (λ b. b == 45) (decimal m)
    (no_dash (decimal m) (decimal_digits m small))
cut_members m last top (next ∷ ms) small low up =
    let fits = last_low next top ms up.1 in
    slice_split_at (λ b. b == 45) (decimal m) 45 (decimal next ++ flat_map dashed ms) (no_dash (decimal m) (decimal_digits m small)) refl
    ∙ ap (λ (l : List (List ℕ)). decimal m ∷ l) (cut_members next next top ms (omega (arith, fits, low)) low up.1)

read_ascend : (n last : ℕ) (ms : List ℕ) → n < 2 ^ 64 → Ascend last ms n → ascend n last (map decimal ms) ≡ true
read_ascend n last [] small up = refl
read_ascend n last (m ∷ ms) small up =
    let low = last_low m n ms up.1 in
    let number = natural_of-decimal m (omega (arith, low, small)) in
    ap (λ o. goes_on last (λ k. ascend n k (map decimal ms)) (at_most n o)) number
    ∙ ap (λ b. goes_on last (λ k. ascend n k (map decimal ms)) (if b then Some m else None)) (le-leb m n low)
    ∙ and_from (nat_lt last m) (ascend n m (map decimal ms)) (lt-ltb last m up.0) (read_ascend n m ms small up.1)

-- the name of a set of two members at least is a made one
pub made_read : (n most : ℕ) (ms : List ℕ) → n < 2 ^ 64 → Ascend 0 ms n → 2 ≤ length ms → length ms ≤ most
    → is_made_name n most (made_name ms) ≡ true
made_read n most [] small up many few = absurd (omega (arith, many))
made_read n most (m ∷ ms) small up many few =
    let low = last_low m n ms up.1 in
    let size : length (map decimal (m ∷ ms)) ≡ length (m ∷ ms) = mapped (m ∷ ms) in
    ap (are_numbers n most) (cut_members m m n ms (omega (arith, low, small)) small up.1)
    ∙ and_from (ascend n 0 (map decimal (m ∷ ms))) (nat_le 2 (length (map decimal (m ∷ ms))) && nat_le (length (map decimal (m ∷ ms))) most)
    (read_ascend n 0 (m ∷ ms) small up)
    (and_from (nat_le 2 (length (map decimal (m ∷ ms)))) (nat_le (length (map decimal (m ∷ ms))) most)
    (le-leb 2 (length (map decimal (m ∷ ms))) (omega (arith, size, many)))
    (le-leb (length (map decimal (m ∷ ms))) most (omega (arith, size, few))))
  where
    mapped : (l : List ℕ) → length (map decimal l) ≡ length l
    mapped [] = refl
    mapped (x ∷ l) = ap suc (mapped l)

-- the numbers that a made name says
abbrev numbers_in : List ℕ → List ℕ
numbers_in name = map (λ w. unwrap_or (natural_of w) 0) (slice_split (λ b. b == 45) (drop 2 name))

words_back : (last top : ℕ) (ms : List ℕ) → top < 2 ^ 64 → Ascend last ms top → map (λ w. unwrap_or (natural_of w) 0) (map decimal ms) ≡ ms
words_back last top [] small up = refl
words_back last top (m ∷ ms) small up =
    let low = last_low m top ms up.1 in
    let own : unwrap_or (natural_of (decimal m)) 0 ≡ m = ap (λ o. unwrap_or o 0) (natural_of-decimal m (omega (arith, low, small))) in
    let rest = words_back m top ms small up.1 in
    (λ j. own j ∷ rest j)

numbers_back : (top : ℕ) (ms : List ℕ) → 0 < length ms → top < 2 ^ 64 → Ascend 0 ms top → numbers_in (made_name ms) ≡ ms
numbers_back top [] some small up = absurd (omega (arith, some))
numbers_back top (m ∷ ms) some small up =
    let low = last_low m top ms up.1 in
    ap (map (λ w. unwrap_or (natural_of w) 0)) (cut_members m m top ms (omega (arith, low, small)) small up.1) ∙ words_back 0 top
    (m ∷ ms) small up

-- sets of one name are one
pub names_apart : (n set other : ℕ) → n < 128 → set < 2 ^ n → other < 2 ^ n → 0 < size_of n set → 0 < size_of n other
    → set_name n set ≡ set_name n other → set ≡ other
names_apart n set other small low less some more same =
    let mine = length-members n set in
    let yours = length-members n other in
    let lists : member_list n set ≡ member_list n other =
    sym (numbers_back n (member_list n set) (omega (arith, mine, some)) (omega (arith, small)) (members_ascend n set))
    ∙ ap numbers_in same
    ∙ numbers_back n (member_list n other) (omega (arith, yours, more)) (omega (arith, small)) (members_ascend n other) in
    sym (mod_small set low) ∙ sym (set_of-members n set) ∙ ap set_of lists ∙ set_of-members n other ∙ mod_small other less
  where
    mod_small : (x : ℕ) → x < 2 ^ n → x % 2 ^ n ≡ x
    mod_small x below = mod-eq_of_lt below
