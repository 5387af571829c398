-- The names that a line declares, word by word.
use Rattle.std.proofs.Common.{◌≡◌, ℕ, suc, ◌+◌, ◌<◌, List, ◌++◌, drop, get_or, length, sym, ap, ◌∙◌, add-one}
use Rattle.std.proofs.lemmas.List.{append_assoc}
use Rattle.std.proofs.lemmas.Grind.{flat_map-append}
use Rattle.action_script.specs.declared.lines.field.Part.{Part}
use Rattle.action_script.specs.declared.lines.field.Field.{Field}
use Rattle.action_script.specs.declared.lines.sort.Naming.{Naming}
use Rattle.action_script.specs.declared.forms.uses.SortedWord.{SortedWord}
use Rattle.action_script.specs.inner.OneLine.{part_at}
use Rattle.action_script.specs.Forms.Uses.{NamedWord, naming_by, sort_declared, with_sort, named_word, named_from}
use Rattle.action_script.proofs.OnForms.NamedFrom.{named_on}
use Rattle.name_uses.specs.inner.DeclaredWords.{declared_in}

-- the words that a line declares, once the field at a place was taken
pub declared_more : (before now : Naming) (parts : List Part) (fields : List Field) (i : ℕ) (d : Field)
    (done more whole : List SortedWord) → i < length fields → now ≡ naming_by before (part_at parts i)
    → more ≡ done ++ declared_in (named_word (i + 1) now (get_or fields i d))
    → done ++ declared_in (named_from (i + 1) before (drop i parts) (drop i fields)) ≡ whole
    → more ++ declared_in (named_from (i + 1 + 1) now (drop (i + 1) parts) (drop (i + 1) fields)) ≡ whole
declared_more before now parts fields i d done more whole within named taken kept =
    let behind = named_from (i + 1 + 1) now (drop (i + 1) parts) (drop (i + 1) fields) in
    let here = named_word (i + 1) now (get_or fields i d) in
    let step : here ++ behind ≡ named_from (i + 1) before (drop i parts) (drop i fields) =
    ap (λ k. here ++ named_from (i + 1 + 1) now (drop k parts) (drop k fields)) (add-one i)
    ∙ ap (λ n. named_word (i + 1) n (get_or fields i d) ++ named_from (i + 1 + 1) n (drop (suc i) parts) (drop (suc i) fields)) named
    ∙ sym (named_on (i + 1) before parts fields i d within) in
    ap (λ l. l ++ declared_in behind) taken ∙ append_assoc done (declared_in here) (declared_in behind)
    ∙ ap (λ l. done ++ l) (sym (flat_map-append (λ (w : NamedWord). with_sort w (sort_declared w.naming)) here behind)
    ∙ ap declared_in step)
    ∙ kept
