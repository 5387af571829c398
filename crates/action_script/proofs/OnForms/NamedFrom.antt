-- The names of a line, word by word.
use Rattle.std.proofs.Common.{◌≡◌, ℕ, zero, suc, ◌+◌, ◌<◌, List, [], ◌∷◌, ◌++◌, drop, get_or, length, refl, sym, ap, ◌∙◌, arith, add-one}
use Rattle.std.proofs.Math.Seq.{drop-nil}
use Rattle.std.proofs.lemmas.List.{append_assoc}
use Rattle.std.proofs.lemmas.Grind.{flat_map-append}
use Rattle.action_script.specs.declared.lines.field.Part.{Part}
use Rattle.action_script.specs.declared.lines.field.Field.{Field}
use Rattle.action_script.specs.declared.lines.sort.Naming.{Naming}
use Rattle.action_script.specs.declared.forms.uses.SortedWord.{SortedWord}
use Rattle.action_script.specs.inner.OneLine.{part_at}
use Rattle.action_script.specs.Forms.Uses.{NamedWord, naming_by, sort_used, with_sort, named_word, named_from, used_in}

-- where the parts have ended, a name comes before those behind it
names_on : (word : ℕ) (before : Naming) (fields : List Field) (i : ℕ) (d : Field) → i < length fields
    → named_from word before [] (drop i fields) ≡ named_word word before (get_or fields i d)
    ++ named_from (word + 1) before [] (drop (suc i) fields)
names_on word before [] i d within = absurd (omega (arith, within))
names_on word before (f ∷ fields) zero d within = refl
names_on word before (f ∷ fields) (suc i) d within = names_on word before fields i d (omega (arith, within))

pub named_on : (word : ℕ) (before : Naming) (parts : List Part) (fields : List Field) (i : ℕ) (d : Field) → i < length fields
    → named_from word before (drop i parts) (drop i fields) ≡ named_word word (naming_by before (part_at parts i)) (get_or fields i d)
    ++ named_from (word + 1) (naming_by before (part_at parts i)) (drop (suc i) parts) (drop (suc i) fields)
named_on word before parts [] i d within = absurd (omega (arith, within))
named_on word before [] fields i d within =
    ap (λ p. named_from word before p (drop i fields)) (drop-nil i) ∙ names_on word before fields i d within ∙ ap
    (λ p. named_word word before (get_or fields i d) ++ named_from (word + 1) before p (drop (suc i) fields)) (sym (drop-nil (suc i)))
named_on word before (p ∷ parts) (f ∷ fields) zero d within = refl
named_on word before (p ∷ parts) (f ∷ fields) (suc i) d within = named_on word before parts fields i d (omega (arith, within))

-- the words that a line uses, once the field at a place was taken
pub used_more : (nest : ℕ) (before now : Naming) (parts : List Part) (fields : List Field) (i : ℕ) (d : Field)
    (done more whole : List SortedWord) → i < length fields → now ≡ naming_by before (part_at parts i)
    → more ≡ done ++ used_in nest (named_word (i + 1) now (get_or fields i d))
    → done ++ used_in nest (named_from (i + 1) before (drop i parts) (drop i fields)) ≡ whole
    → more ++ used_in nest (named_from (i + 1 + 1) now (drop (i + 1) parts) (drop (i + 1) fields)) ≡ whole
used_more nest before now parts fields i d done more whole within named taken kept =
    let behind = named_from (i + 1 + 1) now (drop (i + 1) parts) (drop (i + 1) fields) in
    let here = named_word (i + 1) now (get_or fields i d) in
    let step : here ++ behind ≡ named_from (i + 1) before (drop i parts) (drop i fields) =
    ap (λ k. here ++ named_from (i + 1 + 1) now (drop k parts) (drop k fields)) (add-one i)
    ∙ ap (λ n. named_word (i + 1) n (get_or fields i d) ++ named_from (i + 1 + 1) n (drop (suc i) parts) (drop (suc i) fields)) named
    ∙ sym (named_on (i + 1) before parts fields i d within) in
    ap (λ l. l ++ used_in nest behind) taken ∙ append_assoc done (used_in nest here) (used_in nest behind)
    ∙ ap (λ l. done ++ l) (sym (flat_map-append (λ (w : NamedWord). with_sort w (sort_used nest w.naming)) here behind)
    ∙ ap (used_in nest) step)
    ∙ kept
