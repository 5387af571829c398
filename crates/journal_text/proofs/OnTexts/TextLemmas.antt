-- Lemmas on the text of a journal.
use Rattle.std.proofs.Common.{◌≡◌, ℕ, ◌+◌, List, ◌++◌, zero-add}
use Rattle.std.specs.List.{flat_map, range_with_len}
use Rattle.std.proofs.lemmas.List.{flat_map_more}
use Rattle.caa_base.proofs.ListLemmas.{range_more}

-- the line of one number more
pub lines_more : (line_of : ℕ → List ℕ) (text : List ℕ) (n : ℕ)
    → (text ++ flat_map line_of (range_with_len 0 n)) ++ line_of n ≡ text ++ flat_map line_of (range_with_len 0 (n + 1))
lines_more line_of text n = rw (range_more 0 n, zero-add n) (flat_map_more line_of text (range_with_len 0 n) n)
