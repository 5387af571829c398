-- Places behind so many bytes of a text, step by step.
use Rattle.std.proofs.Common.{◌≡◌, ℕ, zero, suc, ◌+◌, ◌-◌, ◌≤◌, ◌==◌, cond, false, ne_eqb, List, [], ◌∷◌, drop, refl, sym, ap, ◌∙◌, arith}
use Rattle.script_documents.specs.declared.positions.Position.{Position}
use Rattle.script_documents.specs.Positions.{stepped, position_from, position_of}

-- behind no bytes it is the place before the text
pub behind_none : (p : Position) (text : List ℕ) → position_from p 0 text ≡ p
behind_none p [] = refl
behind_none p (b ∷ rest) = refl

-- the front of a text
pub begins : (text : List ℕ) → record { line = 0; character = 0 } ≡ position_of text 0
begins text = sym (behind_none (record { line = 0; character = 0 }) text)

-- behind one byte more
one_more : (p : Position) (count b : ℕ) (rest : List ℕ)
    → position_from p (suc count) (b ∷ rest) ≡ position_from (stepped p (b ∷ rest)) count rest
one_more p count b rest =
    let less : suc count - 1 ≡ count = omega arith in
    let some : (suc count == 0) ≡ false = ne_eqb (suc count) 0 (λ e. omega (arith, e)) in
    ap (λ t. cond t p (position_from (stepped p (b ∷ rest)) (suc count - 1) rest)) some
    ∙ ap (λ k. position_from (stepped p (b ∷ rest)) k rest) less

-- behind some bytes, and then behind more of them
further : (p : Position) (a n : ℕ) (text : List ℕ) → position_from (position_from p a text) n (drop a text) ≡ position_from p (a + n) text
further p zero n text =
    ap (λ q. position_from q n text) (behind_none p text) ∙ ap (λ k. position_from p k text) (omega arith)
further p (suc a) n [] = refl
further p (suc a) n (b ∷ rest) =
    let on : suc (a + n) ≡ suc a + n = omega arith in
    ap (λ q. position_from q n (drop a rest)) (one_more p a b rest) ∙ further (stepped p (b ∷ rest)) a n rest
    ∙ sym (one_more p (a + n) b rest) ∙ ap (λ k. position_from p k (b ∷ rest)) on

-- the place behind so many bytes, by that behind fewer
pub onward : (text : List ℕ) (p : Position) (from to : ℕ) → from ≤ to → p ≡ position_of text from
    → position_from p (to - from) (drop from text) ≡ position_of text to
onward text p from to order before =
    let start : Position = record { line = 0; character = 0 } in
    let sum : from + (to - from) ≡ to = omega (arith, order) in
    ap (λ q. position_from q (to - from) (drop from text)) before ∙ further start from (to - from) text
    ∙ ap (λ k. position_from start k text) sum
