-- Pieces of a text that lie one behind the other.
use Rattle.std.proofs.Common.{◌≡◌, ℕ, ◌≤◌, true, nat_le, List, [], ◌∷◌, leb-true, arith}
use Rattle.std.proofs.lemmas.Bool.{and_parts}
use Rattle.name_uses.specs.declared.spans.Span.{Span}
use Rattle.name_uses.specs.Renamed.{are_in_order}

-- they lie in the text
pub in_text : (done count : ℕ) (spans : List Span) → are_in_order done count spans ≡ true → done ≤ count
in_text done count [] h = leb-true done count h
in_text done count (span ∷ spans) h =
    let p = and_parts (nat_le done span.start) _ h in
    let q = and_parts (nat_le span.start span.end) _ p.1 in
    omega (arith, leb-true done span.start p.0, leb-true span.start span.end q.0, in_text span.end count spans q.1)

-- the first begins behind what is done
pub begins_behind : (done count : ℕ) (span : Span) (spans : List Span) → are_in_order done count (span ∷ spans) ≡ true → done ≤ span.start
begins_behind done count span spans h = leb-true done span.start (and_parts (nat_le done span.start) _ h).0

-- and in the text
pub begins_within : (done count : ℕ) (span : Span) (spans : List Span) → are_in_order done count (span ∷ spans) ≡ true → span.start ≤ count
begins_within done count span spans h =
    let p = and_parts (nat_le done span.start) _ h in
    let q = and_parts (nat_le span.start span.end) _ p.1 in
    omega (arith, leb-true span.start span.end q.0, in_text span.end count spans q.1)

-- the others lie behind it
pub others_behind : (done count : ℕ) (span : Span) (spans : List Span) → are_in_order done count (span ∷ spans) ≡ true
    → are_in_order span.end count spans ≡ true
others_behind done count span spans h =
    let p = and_parts (nat_le done span.start) _ h in (and_parts (nat_le span.start span.end) _ p.1).1
