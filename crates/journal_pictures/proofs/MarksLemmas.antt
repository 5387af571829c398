-- Lemmas on the marks of a picture.
use Rattle.std.proofs.Common.{◌≡◌, ℕ, suc, ◌+◌, ◌<◌, List, [], ◌∷◌, ◌++◌, length, get_or, take, drop, min, ap, sym, ◌∙◌, arith, length-take}
use Rattle.std.specs.List.{All}
use Rattle.std.proofs.lemmas.List.{take_more}
use Rattle.std.proofs.lemmas.List.Elements.{All-nil, All-cons, All-head, All-tail, All-take, All-drop}
use Rattle.caa_base.specs.declared.written.entry.Entry.{Entry}
use Rattle.journal_pictures.specs.Marks.{most_rows, drawn, mark_at, marks_from}

-- the marks of one entry more
pub marks_more : (n row : ℕ) (es : List Entry) (e : Entry) → row ≡ n + length es
    → marks_from n (es ++ e ∷ []) ≡ marks_from n es ++ mark_at row e ∷ []
marks_more n row [] e h = let same : n ≡ row = omega (arith, h) in ap (λ k. mark_at k e ∷ []) same
marks_more n row (x ∷ es) e h = ap (λ rest. mark_at n x ∷ rest) (marks_more (suc n) row es e (omega (arith, h)))

-- the same of one entry more of a list
pub marks_next : (es : List Entry) (i : ℕ) (d : Entry) → i < length es
    → marks_from 0 (take i es) ++ mark_at i (get_or es i d) ∷ [] ≡ marks_from 0 (take (i + 1) es)
marks_next es i d h =
    let few : i ≡ 0 + length (take i es) = omega (arith, h, length-take i es) in
    sym (ap (marks_from 0) (take_more es i d h) ∙ marks_more 0 i (take i es) (get_or es i d) few)

-- what holds of each entry holds of the entry of each mark
pub marks_keep : (P : Entry → Type 0) (n : ℕ) (es : List Entry) → All P es → All (λ m. P m.entry) (marks_from n es)
marks_keep P n [] h = All-nil (λ m. P m.entry)
marks_keep P n (e ∷ es) h =
    All-cons (λ m. P m.entry) (mark_at n e) (marks_from (suc n) es) (All-head P e es h)
    (marks_keep P (suc n) es (All-tail P e es h))

-- the same of the marks of what is drawn
pub marks_drawn : (P : Entry → Type 0) (first count : ℕ) (es : List Entry) → All P es
    → All (λ m. P m.entry) (marks_from 0 (drawn first count es))
marks_drawn P first count es h =
    marks_keep P 0 (drawn first count es) (All-take P (min count most_rows) (drop first es) (All-drop P first es h))
