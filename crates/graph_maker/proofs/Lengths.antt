-- The text of a made script isn't longer than a script may be.
use Rattle.std.proofs.Common.{◌≡◌, ℕ, zero, suc, ◌+◌, ◌*◌, ◌<◌, ◌≤◌, Bool, true, false, if◌then◌else◌, List, [], ◌∷◌, ◌++◌, length, map, refl, ◌∙◌, arith}
use Rattle.std.specs.List.{list_all, flat_map}
use Rattle.std.proofs.lemmas.Bool.{and_from, and_parts}
use Rattle.std.proofs.lemmas.List.{length-append, length-map}
use Rattle.std.proofs.lemmas.List.Folds.{list_all-append}
use Rattle.caa_base.specs.Written.Limits.{most_script_bytes}
use Rattle.caa_base.specs.Written.Names.{is_name, name_at}
use Rattle.action_script.specs.declared.forms.form.Form.{Form}
use Rattle.action_script.specs.declared.forms.form.Form.TheVariants as form
use Rattle.action_script.specs.Forms.Printing.{form_line, line_text, numbered_from, text_of}
use Rattle.action_script.specs.Words.NumberedNames.{is_among, number_in, with_name, with_names}
use Rattle.graph_maker.specs.MadeScripts.{cover_form, made_forms, made_script}
use Rattle.graph_maker.proofs.Scripted.{short_name}

-- ---- names

-- names with a further one are names
named_more : (names : List (List ℕ)) (word : List ℕ) → list_all is_name names ≡ true → is_name word ≡ true
    → list_all is_name (with_name names word) ≡ true
named_more names word named is = by (is_among names word)
  where
    by : (b : Bool) → list_all is_name (if b then names else names ++ word ∷ []) ≡ true
    by true = named
    by false =
        list_all-append is_name names (word ∷ []) ∙ and_from (list_all is_name names) (list_all is_name (word ∷ [])) named
        (and_from (is_name word) true is refl)

all_named : (names words : List (List ℕ)) → list_all is_name names ≡ true → list_all is_name words ≡ true
    → list_all is_name (with_names names words) ≡ true
all_named names [] named more = named
all_named names (word ∷ words) named more =
    let p = and_parts (is_name word) (list_all is_name words) more in
    all_named (with_name names word) words (named_more names word named p.0) p.1

name_short : (names : List (List ℕ)) (k : ℕ) → list_all is_name names ≡ true → length (name_at names k) ≤ 32
name_short [] k named = omega arith
name_short (name ∷ names) zero named = short_name names name (and_parts (is_name name) (list_all is_name names) named).0
name_short (name ∷ names) (suc k) named = name_short names k (and_parts (is_name name) (list_all is_name names) named).1

-- ---- lines

module _ (names : List (List ℕ)) (named : list_all is_name names ≡ true) where
  -- none of these forms has a line of more bytes than this
  abbrev AreWithin : List Form → Type 0
  AreWithin [] = Unit {0}
  AreWithin (f ∷ forms) = (length (form_line names f) ≤ 71) × AreWithin forms

  graph_within : (n : ℕ) → length (form_line names (form.Graph n)) ≤ 71
  graph_within n = let few = name_short names n named in let line = length-append (name_at names n) [] in omega (arith, few, line)

  exception_within : (n : ℕ) → length (form_line names (form.Exception n)) ≤ 71
  exception_within n = let few = name_short names n named in let line = length-append (name_at names n) [] in omega (arith, few, line)

  cover_within : (n m : ℕ) → length (form_line names (form.Cover n m)) ≤ 71
  cover_within n m =
      let few = name_short names n named in
      let less = name_short names m named in
      let inner = length-append (name_at names m) [] in
      let line = length-append (name_at names n) (32 ∷ name_at names m ++ []) in
      omega (arith, few, less, inner, line)

  covers_within : (numbers : List ℕ) (pairs : List (ℕ × ℕ)) → AreWithin (map (cover_form numbers) pairs ++ form.End ∷ [])
  covers_within numbers [] = (omega arith, tt)
  covers_within numbers (pair ∷ pairs) = (cover_within _ _, covers_within numbers pairs)

  all_within : (numbers own : List ℕ) (pairs : List (ℕ × ℕ))
      → AreWithin (map form.Exception own ++ map (cover_form numbers) pairs ++ form.End ∷ [])
  all_within numbers [] pairs = covers_within numbers pairs
  all_within numbers (n ∷ own) pairs = (exception_within n, all_within numbers own pairs)

  -- so a text has at most 72 bytes for each line
  length-text : (number : ℕ) (forms : List Form) → AreWithin forms
      → length (flat_map (line_text names) (numbered_from number forms)) ≤ 72 * length forms
  length-text number [] within = omega arith
  length-text number (f ∷ forms) within =
      let here = within.0 in
      let line = length-append (form_line names f) (10 ∷ []) in
      let rest = length-text (number + 1) forms within.1 in
      let both =
      length-append (form_line names f ++ 10 ∷ []) (flat_map (line_text names) (numbered_from (number + 1) forms)) in
      omega (arith, here, line, rest, both)

-- ---- the text

pub text_fits : (words : List (List ℕ)) (pairs : List (ℕ × ℕ)) → 0 < length words → length words ≤ 128 → list_all is_name words ≡ true
    → length pairs ≤ 896 → length (text_of (made_script words pairs)) ≤ most_script_bytes
text_fits [] pairs some few named less = absurd (omega (arith, some))
text_fits (graph ∷ words) pairs some few named less =
    let names = with_names [] (graph ∷ words) in
    let all = all_named [] (graph ∷ words) refl named in
    let numbers = map (number_in names) (graph ∷ words) in
    let own = map (number_in names) words in
    let text = length-text names all 1 (made_forms numbers pairs)
    (graph_within names all (number_in names graph), all_within names all numbers own pairs) in
    let lines = length-append (map form.Exception own ++ map (cover_form numbers) pairs) (form.End ∷ []) in
    let covers = length-append (map form.Exception own) (map (cover_form numbers) pairs) in
    let e : length (map form.Exception own) ≡ length own = length-map own form.Exception in
    let f : length own ≡ length words = length-map words (number_in names) in
    let h : length (map (cover_form numbers) pairs) ≡ length pairs = length-map pairs (cover_form numbers) in
    omega (arith, text, lines, covers, e, f, h, few, less)
