-- The names and forms of a graph make a script.
use Rattle.std.proofs.Common.{◌≡◌, ℕ, zero, suc, ◌+◌, ◌<◌, ◌≤◌, ◌^◌, nat_le, Bool, true, ◌&&◌, if◌then◌else◌, List, [], ◌∷◌, ◌++◌, length, map, slice_index, All, refl, sym, ap, ◌∙◌, subst, arith}
use Rattle.std.specs.List.{list_all, flat_map}
use Rattle.std.proofs.lemmas.Bool.{and_from, and_parts, le-leb, leb-true}
use Rattle.std.proofs.lemmas.List.{length-append, length-map}
use Rattle.std.proofs.lemmas.List.Elements.{All-head, All-tail}
use Rattle.caa_base.specs.Written.Names.{is_name, is_name_byte, begins_with_letter, name_at}
use Rattle.action_script.specs.declared.forms.form.Form.{Form}
use Rattle.action_script.specs.declared.forms.form.Form.TheVariants as form
use Rattle.action_script.specs.declared.lines.kind.Section.TheVariants as section
use Rattle.action_script.specs.Forms.Printing.{form_line, form_names, is_short, is_sound, lead_to_top, AreScript}
use Rattle.action_script.specs.Words.NumberedNames.{is_among, number_in, with_names}
use Rattle.action_script.proofs.OnForms.Fits.{name-number}
use Rattle.action_script.proofs.OnLines.Steadiness.{all_among-with_names, with_names-append}
use Rattle.action_script.proofs.OnWords.NamesCounted.{length-with_names}
use Rattle.graph_maker.specs.MadeScripts.{cover_form, made_forms}

-- ---- lists

-- what holds of each holds of the one at a place
pub test_at : (test : ℕ → Bool) (xs : List ℕ) (k : ℕ) → list_all test xs ≡ true → k < length xs → test (slice_index xs k) ≡ true
test_at test [] k all within = absurd (omega (arith, within))
test_at test (x ∷ xs) zero all within = (and_parts (test x) (list_all test xs) all).0
test_at test (x ∷ xs) (suc k) all within = test_at test xs k (and_parts (test x) (list_all test xs) all).1 (omega (arith, within))

-- ---- one form

module _ (names : List (List ℕ)) where
  -- a number is that of a name
  abbrev is_good : ℕ → Bool
  is_good n = is_name (name_at names n) && is_among names (name_at names n)

  good_name : (n : ℕ) → is_good n ≡ true → is_name (name_at names n) ≡ true
  good_name n good = (and_parts (is_name (name_at names n)) (is_among names (name_at names n)) good).0

  good_among : (n : ℕ) → is_good n ≡ true → is_among names (name_at names n) ≡ true
  good_among n good = (and_parts (is_name (name_at names n)) (is_among names (name_at names n)) good).1

  pub short_name : (word : List ℕ) → is_name word ≡ true → length word ≤ 32
  short_name word named =
      let a = and_parts (begins_with_letter word) _ named in
      let b = and_parts (nat_le (length word) 32) (list_all is_name_byte word) a.1 in
      leb-true (length word) 32 b.0

  sound_one : (n : ℕ) → is_good n ≡ true → (is_name (name_at names n) && true) ≡ true
  sound_one n good = and_from (is_name (name_at names n)) true (good_name n good) refl

  short_graph : (n : ℕ) → is_good n ≡ true → is_short names (form.Graph n) ≡ true
  short_graph n good =
      let few = short_name (name_at names n) (good_name n good) in
      let line = length-append (name_at names n) [] in
      le-leb (length (form_line names (form.Graph n))) 16384 (omega (arith, few, line))

  short_exception : (n : ℕ) → is_good n ≡ true → is_short names (form.Exception n) ≡ true
  short_exception n good =
      let few = short_name (name_at names n) (good_name n good) in
      let line = length-append (name_at names n) [] in
      le-leb (length (form_line names (form.Exception n))) 16384 (omega (arith, few, line))

  short_cover : (n m : ℕ) → is_good n ≡ true → is_good m ≡ true → is_short names (form.Cover n m) ≡ true
  short_cover n m good too =
      let few = short_name (name_at names n) (good_name n good) in
      let less = short_name (name_at names m) (good_name m too) in
      let inner = length-append (name_at names m) [] in
      let line = length-append (name_at names n) (32 ∷ name_at names m ++ []) in
      le-leb (length (form_line names (form.Cover n m))) 16384 (omega (arith, few, less, inner, line))

  sound_cover : (n m : ℕ) → is_good n ≡ true → is_good m ≡ true → is_sound names (form.Cover n m) ≡ true
  sound_cover n m good too = and_from (is_name (name_at names n)) (is_name (name_at names m) && true) (good_name n good) (sound_one m too)

  -- ---- the forms of a graph

  -- what stands between the line of the graph and its end
  abbrev inside : List ℕ → List ℕ → List (ℕ × ℕ) → List Form
  inside numbers own pairs = map form.Exception own ++ map (cover_form numbers) pairs ++ form.End ∷ []

  module _ (numbers : List ℕ) (goods : list_all is_good numbers ≡ true) where
    abbrev AreIn : List (ℕ × ℕ) → Type 0
    AreIn pairs = All (λ (p : ℕ × ℕ). (p.0 < length numbers) × (p.1 < length numbers)) pairs

    good_at : (k : ℕ) → k < length numbers → is_good (slice_index numbers k) ≡ true
    good_at k within = test_at is_good numbers k goods within

    covers_lead : (pairs : List (ℕ × ℕ)) → lead_to_top section.Graph (map (cover_form numbers) pairs ++ form.End ∷ []) ≡ true
    covers_lead [] = refl
    covers_lead (pair ∷ pairs) = covers_lead pairs

    pub leads : (own : List ℕ) (pairs : List (ℕ × ℕ)) → lead_to_top section.Graph (inside numbers own pairs) ≡ true
    leads [] pairs = covers_lead pairs
    leads (n ∷ own) pairs = leads own pairs

    covers_sound : (pairs : List (ℕ × ℕ)) → AreIn pairs → list_all (is_sound names) (map (cover_form numbers) pairs ++ form.End ∷ []) ≡ true
    covers_sound [] within = refl
    covers_sound ((a, b) ∷ pairs) within =
        let here = All-head (λ (p : ℕ × ℕ). (p.0 < length numbers) × (p.1 < length numbers)) (a, b) pairs within in
        and_from (is_sound names (cover_form numbers (a, b))) (list_all (is_sound names) (map (cover_form numbers) pairs ++ form.End ∷ []))
        (sound_cover (slice_index numbers a) (slice_index numbers b) (good_at a here.0) (good_at b here.1))
        (covers_sound pairs (All-tail (λ (p : ℕ × ℕ). (p.0 < length numbers) × (p.1 < length numbers)) (a, b) pairs within))

    pub sounds : (own : List ℕ) (pairs : List (ℕ × ℕ)) → list_all is_good own ≡ true → AreIn pairs
        → list_all (is_sound names) (inside numbers own pairs) ≡ true
    sounds [] pairs good within = covers_sound pairs within
    sounds (n ∷ own) pairs good within =
        let p = and_parts (is_good n) (list_all is_good own) good in
        and_from (is_sound names (form.Exception n)) (list_all (is_sound names) (inside numbers own pairs)) (sound_one n p.0)
        (sounds own pairs p.1 within)

    covers_short : (pairs : List (ℕ × ℕ)) → AreIn pairs → list_all (is_short names) (map (cover_form numbers) pairs ++ form.End ∷ []) ≡ true
    covers_short [] within = refl
    covers_short ((a, b) ∷ pairs) within =
        let here = All-head (λ (p : ℕ × ℕ). (p.0 < length numbers) × (p.1 < length numbers)) (a, b) pairs within in
        and_from (is_short names (cover_form numbers (a, b))) (list_all (is_short names) (map (cover_form numbers) pairs ++ form.End ∷ []))
        (short_cover (slice_index numbers a) (slice_index numbers b) (good_at a here.0) (good_at b here.1))
        (covers_short pairs (All-tail (λ (p : ℕ × ℕ). (p.0 < length numbers) × (p.1 < length numbers)) (a, b) pairs within))

    pub shorts : (own : List ℕ) (pairs : List (ℕ × ℕ)) → list_all is_good own ≡ true → AreIn pairs
        → list_all (is_short names) (inside numbers own pairs) ≡ true
    shorts [] pairs good within = covers_short pairs within
    shorts (n ∷ own) pairs good within =
        let p = and_parts (is_good n) (list_all is_good own) good in
        and_from (is_short names (form.Exception n)) (list_all (is_short names) (inside numbers own pairs)) (short_exception n p.0)
        (shorts own pairs p.1 within)

    -- the names that come up with covers are there already
    covers_among : (pairs : List (ℕ × ℕ)) → AreIn pairs
        → list_all (is_among names) (flat_map (form_names names) (map (cover_form numbers) pairs ++ form.End ∷ [])) ≡ true
    covers_among [] within = refl
    covers_among ((a, b) ∷ pairs) within =
        let here = All-head (λ (p : ℕ × ℕ). (p.0 < length numbers) × (p.1 < length numbers)) (a, b) pairs within in
        let rest = covers_among pairs (All-tail (λ (p : ℕ × ℕ). (p.0 < length numbers) × (p.1 < length numbers)) (a, b) pairs within) in
        let more = flat_map (form_names names) (map (cover_form numbers) pairs ++ form.End ∷ []) in
        let n = slice_index numbers a in
        let m = slice_index numbers b in
        and_from (is_among names (name_at names n)) (is_among names (name_at names m) && list_all (is_among names) more)
        (good_among n (good_at a here.0))
        (and_from (is_among names (name_at names m)) (list_all (is_among names) more) (good_among m (good_at b here.1)) rest)

    -- those of the exceptions are their words
    pub own_names : (words : List (List ℕ)) (pairs : List (ℕ × ℕ)) → list_all (is_among names) words ≡ true
        → flat_map (form_names names) (inside numbers (map (number_in names) words) pairs) ≡ words ++ flat_map (form_names names)
        (map (cover_form numbers) pairs ++ form.End ∷ [])
    own_names [] pairs among = refl
    own_names (word ∷ words) pairs among =
        let p = and_parts (is_among names word) (list_all (is_among names) words) among in
        ap (λ (w : List ℕ). w ∷ flat_map (form_names names) (inside numbers (map (number_in names) words) pairs))
        (name-number names word p.0)
        ∙ ap (λ (l : List (List ℕ)). word ∷ l) (own_names words pairs p.1)

  -- words that are there add nothing
  none_new : (words : List (List ℕ)) → list_all (is_among names) words ≡ true → with_names names words ≡ names
  none_new [] among = refl
  none_new (word ∷ words) among =
      let p = and_parts (is_among names word) (list_all (is_among names) words) among in
      ap (λ (b : Bool). with_names (if b then names else names ++ word ∷ []) words) p.0 ∙ none_new words p.1

  -- the numbers of words that are names and are there are good
  pub goods_of : (words : List (List ℕ)) → list_all is_name words ≡ true → list_all (is_among names) words ≡ true
      → list_all is_good (map (number_in names) words) ≡ true
  goods_of [] named among = refl
  goods_of (word ∷ words) named among =
      let p = and_parts (is_name word) (list_all is_name words) named in
      let q = and_parts (is_among names word) (list_all (is_among names) words) among in
      let own = sym (name-number names word q.0) in
      and_from (is_good (number_in names word)) (list_all is_good (map (number_in names) words))
      (and_from (is_name (name_at names (number_in names word))) (is_among names (name_at names (number_in names word)))
      (subst (λ (w : List ℕ). is_name w ≡ true) own p.0) (subst (λ (w : List ℕ). is_among names w ≡ true) own q.0))
      (goods_of words p.1 q.1)

-- ---- the script

pub are_script : (words : List (List ℕ)) (pairs : List (ℕ × ℕ)) → 0 < length words → length words ≤ 128 → list_all is_name words ≡ true
    → All (λ (p : ℕ × ℕ). (p.0 < length words) × (p.1 < length words)) pairs → length pairs ≤ 2 ^ 31
    → AreScript (with_names [] words) (made_forms (map (number_in (with_names [] words)) words) pairs)
are_script [] pairs some few named within less = absurd (omega (arith, some))
are_script (graph ∷ words) pairs some few named within less =
    let all = graph ∷ words in
    let names = with_names [] all in
    let numbers = map (number_in names) all in
    let own = map (number_in names) words in
    let among = all_among-with_names [] all in
    let goods = goods_of names all named among in
    let g = and_parts (is_good names (number_in names graph)) (list_all (is_good names) own) goods in
    let a = and_parts (is_among names graph) (list_all (is_among names) words) among in
    let many = length-map all (number_in names) in
    let in_range : All (λ (p : ℕ × ℕ). (p.0 < length numbers) × (p.1 < length numbers)) pairs =
    subst (λ k. All (λ (p : ℕ × ℕ). (p.0 < k) × (p.1 < k)) pairs) (sym many) within in
    let count = length-with_names [] all in
    let later = flat_map (form_names names) (map (cover_form numbers) pairs ++ form.End ∷ []) in
    let said : flat_map (form_names names) (made_forms numbers pairs) ≡ all ++ later =
    ap (λ (w : List ℕ). w ∷ flat_map (form_names names) (inside names numbers own pairs)) (name-number names graph a.0)
    ∙ ap (λ (l : List (List ℕ)). graph ∷ l) (own_names names numbers goods words pairs a.1) in
    let lines = length-append (map form.Exception own ++ map (cover_form numbers) pairs) (form.End ∷ []) in
    let covers = length-append (map form.Exception own) (map (cover_form numbers) pairs) in
    let e : length (map form.Exception own) ≡ length own = length-map own form.Exception in
    let f : length own ≡ length words = length-map words (number_in names) in
    let h : length (map (cover_form numbers) pairs) ≡ length pairs = length-map pairs (cover_form numbers) in
    let total : length (inside names numbers own pairs) ≡ length words + (length pairs + 1) = omega (arith, lines, covers, e, f, h) in
    let size : length words + 1 ≤ 128 = omega (arith, few) in
    let long : length (made_forms numbers pairs) ≡ suc (length (inside names numbers own pairs)) = refl in
    record {
      few_names = omega (arith, count, few);
      few_forms = subst (λ k. k < 2 ^ 32) (sym long) (omega (arith, total, size, less));
      lead = leads names numbers goods own pairs;
      sound =
          and_from (is_sound names (form.Graph (number_in names graph))) (list_all (is_sound names) (inside names numbers own pairs))
          (sound_one names (number_in names graph) g.0) (sounds names numbers goods own pairs g.1 in_range);
      short =
          and_from (is_short names (form.Graph (number_in names graph))) (list_all (is_short names) (inside names numbers own pairs))
          (short_graph names (number_in names graph) g.0) (shorts names numbers goods own pairs g.1 in_range);
      order =
          ap (with_names []) said ∙ with_names-append [] all later ∙ none_new names later (covers_among names numbers goods pairs in_range);
    }
