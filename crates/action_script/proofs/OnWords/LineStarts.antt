-- Where lines begin.
use Rattle.std.proofs.Common.{◌≡◌, ℕ, zero, suc, ◌+◌, ◌-◌, ◌==◌, Bool, true, false, not, cond, List, [], ◌∷◌, length, drop, refl, ap, sym, ◌∙◌, arith, add-one, inl, inr}
use Rattle.std.proofs.lemmas.Bool.{cases_lt}
use Rattle.std.proofs.lemmas.List.{drop_all, length-drop, drop-drop}
use Rattle.action_script.specs.Words.JournalStarts.{after_lines}
use Rattle.action_script.proofs.OnWords.LineCuts.{end_of}

-- after all lines there is none
after_none : (n : ℕ) → after_lines n [] ≡ []
after_none zero = refl
after_none (suc n) = refl

-- by the first byte
by_first : (t : Bool) (n i : ℕ) (text : List ℕ) → after_lines (suc n) text ≡ after_lines n (drop (i + 1) text)
    → cond t (after_lines n text) (after_lines (suc n) text) ≡ after_lines n (drop (cond (not t) (1 + i) 0) text)
by_first true n i text later = refl
by_first false n i text later = let same : i + 1 ≡ 1 + i = omega arith in later ∙ ap (λ k. after_lines n (drop k text)) same

-- after the first line feed, or the end of the text, the next line begins
pub after_feed : (text : List ℕ) (n : ℕ) → after_lines (suc n) text ≡ after_lines n (drop (end_of text + 1) text)
after_feed [] n = sym (after_none n)
after_feed (b ∷ text) n =
    by_first (b == 10) n (end_of text) text (after_feed text n)
    ∙ ap (λ k. after_lines n (drop k (b ∷ text))) (sym (add-one (end_of (b ∷ text))))

-- what stands after some lines is the end of the text
end_so : (n : ℕ) (text : List ℕ) → (k : ℕ) × (after_lines n text ≡ drop k text)
end_so zero text = (0, refl)
end_so (suc n) text =
    let m = end_of text + 1 in
    let rest = end_so n (drop m text) in
    (m + rest.0, after_feed text n ∙ rest.1 ∙ drop-drop rest.0 m text)

-- it is what is left there when as many bytes are dropped as stand before it
pub after_dropped : (n : ℕ) (text rest : List ℕ) → after_lines n text ≡ rest → drop (length text - length rest) text ≡ rest
after_dropped n text rest e =
    let found = end_so n text in
    let same : rest ≡ drop found.0 text = sym e ∙ found.1 in
    let size : length rest ≡ length text - found.0 = ap length same ∙ length-drop found.0 text in
    elim (cases_lt found.0 (length text)) [
      | inl h ↦ let k : length text - length rest ≡ found.0 = omega arith in ap (λ j. drop j text) k ∙ sym same
      | inr h ↦ drop_all (length text - length rest) text (omega arith) ∙ sym (same ∙ drop_all found.0 text (omega arith))
    ]
