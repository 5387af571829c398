-- The words of a script: names, numbers and tests.
use Rattle.std.specs.Prelude.{ℕ, ℤ, pos, negsuc, zero, suc, ◌==◌, if◌then◌else◌, Bool, false, not, ◌&&◌, ◌||◌, List, [], ◌∷◌, Option, Some, None, option_map, bytes_eq, codes}
use Rattle.std.specs.List.{list_all}
use Rattle.caa_base.specs.Written.Lists.{is_empty}
use Rattle.caa_base.specs.Written.Names.{is_digit}
use Rattle.caa_base.specs.Written.Limits.{most_value, most_count}
use Rattle.caa_base.specs.declared.written.entry.Test.{Test}
use Rattle.caa_base.specs.declared.written.entry.Test.TheVariants as test
use Rattle.caa_base.specs.Written.Lines.{digits_after, at_most}

-- ---- numbers

-- the digit 0 leads no others
abbrev pub leads_well : List ℕ → Bool
leads_well [] = false
leads_well (b ∷ rest) = not (b == 48) || is_empty rest

-- a number without a sign: digits without a leading zero
abbrev pub natural_of : List ℕ → Option ℕ
natural_of word = if leads_well word && list_all is_digit word then Some (digits_after 0 word) else None

-- a number that isn't 0
abbrev pub at_least_one : Option ℕ → Option ℕ
at_least_one None = None
at_least_one (Some zero) = None
at_least_one (Some (suc n)) = Some (suc n)

-- a number below 0 by its digits; `-0` is none
abbrev pub negative_of : Option ℕ → Option ℤ
negative_of None = None
negative_of (Some zero) = None
negative_of (Some (suc n)) = Some (negsuc n)

-- a value: at most 10^12 on either side of 0, with `-` before it where it is negative
abbrev pub value_of : List ℕ → Option ℤ
value_of [] = None
value_of (b ∷ rest) =
    if b == 45 then negative_of (at_most most_value (natural_of rest))
    else option_map pos (at_most most_value (natural_of (b ∷ rest)))

-- a number of rounds
abbrev pub rounds_of : List ℕ → Option ℕ
rounds_of word = at_most most_count (natural_of word)

-- a count: from 1 to the same number
abbrev pub count_of : List ℕ → Option ℕ
count_of word = at_least_one (rounds_of word)

-- ---- tests

-- the test that a word says
abbrev pub test_of : List ℕ → Option Test
test_of word =
    if bytes_eq word (codes "below") then Some test.Below
    else (if bytes_eq word (codes "above") then Some test.Above
    else (if bytes_eq word (codes "equal") then Some test.Equal else None))

-- the word of a test
abbrev pub test_word : Test → List ℕ
test_word test.Below = codes "below"
test_word test.Above = codes "above"
test_word test.Equal = codes "equal"
