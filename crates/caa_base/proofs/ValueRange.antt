-- The test of a value, and the range that it tests.
use Rattle.std.proofs.Common.{◌≡◌, ℤ, pos, negsuc, ◌+◌, true, arith}
use Rattle.std.proofs.lemmas.Int.{ints}
use Rattle.std.proofs.lemmas.Bool.{leb-true}
use Rattle.caa_base.specs.Written.Limits.{IsValue, is_value, most_value}

-- what passes the test lies in the range
pub value_from : (v : ℤ) → is_value v ≡ true → IsValue v
value_from (pos n) h = let small = leb-true n most_value h in (omega (arith, ints), omega (arith, ints))
value_from (negsuc n) h = let small = leb-true (n + 1) most_value h in (omega (arith, ints), omega (arith, ints))
