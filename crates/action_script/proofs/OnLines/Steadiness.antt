-- A name keeps its number as further names come.
use Rattle.std.proofs.Common.{rules, ◌≡◌, ℕ, zero, suc, ◌+◌, ◌<◌, Bool, true, false, ◌||◌, ◌&&◌, cond, if◌then◌else◌, List, [], ◌∷◌, ◌++◌, length, map, filter, take, drop, get_or, add-one, bytes_eq, Bor, refl, sym, ap, ◌∙◌, arith, true≢false}
use Rattle.std.specs.List.{list_all, flat_map}
use Rattle.std.proofs.lemmas.Bool.{and_parts}
use Rattle.std.proofs.lemmas.List.{map-append}
use Rattle.std.proofs.lemmas.List.Folds.{list_all-append}
use Rattle.std.proofs.Math.Seq.{drop-cons, drop-nil, take-suc}
use Rattle.action_script.specs.declared.lines.field.Part.{Part}
use Rattle.action_script.specs.declared.lines.field.Part.TheVariants as part
use Rattle.action_script.specs.declared.lines.sort.Naming.TheVariants as naming
use Rattle.action_script.specs.declared.lines.field.Field.{Field}
use Rattle.action_script.specs.declared.lines.field.Field.TheVariants as field
use Rattle.action_script.specs.declared.forms.script.Line.{Line}
use Rattle.action_script.specs.Lines.Asked.{Asked}
use Rattle.action_script.specs.Forms.LineForms.{form_by}
use Rattle.action_script.specs.Words.NumberedNames.{is_among, with_name, with_names, number_in}
use Rattle.action_script.specs.Lines.Spelling.{asked_of, is_right, is_name_part, names_of, field_by, field_of, Numbered, line_by, script_names}
use Rattle.action_script.specs.inner.OneLine.{part_at}

and : (a b : Bool) → a ≡ true → b ≡ true → (a && b) ≡ true
and true b p q = q
and false b p q = cc

-- ---- one name more

pub bytes_eq-same : (word : List ℕ) → bytes_eq word word ≡ true
bytes_eq-same [] = refl
bytes_eq-same (b ∷ word) = search (rules, bytes_eq-same word)

is_among-push : (names : List (List ℕ)) (new word : List ℕ) → is_among names word ≡ true → is_among (names ++ new ∷ []) word ≡ true
is_among-push [] new word h = cc
is_among-push (name ∷ names) new word h = by (bytes_eq word name) (is_among-push names new word) h
  where
    by : (b : Bool) → (is_among names word ≡ true → is_among (names ++ new ∷ []) word ≡ true) → (b || is_among names word) ≡ true
        → (b || is_among (names ++ new ∷ []) word) ≡ true
    by true rest g = refl
    by false rest g = rest g

is_among-new : (names : List (List ℕ)) (word : List ℕ) → is_among (names ++ word ∷ []) word ≡ true
is_among-new [] word = ap (λ b. b || false) (bytes_eq-same word)
is_among-new (name ∷ names) word = by (bytes_eq word name) (is_among-new names word)
  where
    by : (b : Bool) → is_among (names ++ word ∷ []) word ≡ true → (b || is_among (names ++ word ∷ []) word) ≡ true
    by true h = refl
    by false h = h

pub number_in-push : (names : List (List ℕ)) (new word : List ℕ) → is_among names word ≡ true
    → number_in (names ++ new ∷ []) word ≡ number_in names word
number_in-push [] new word h = cc
number_in-push (name ∷ names) new word h = by (bytes_eq word name) (number_in-push names new word) h
  where
    by : (b : Bool) → (is_among names word ≡ true → number_in (names ++ new ∷ []) word ≡ number_in names word)
        → (b || is_among names word) ≡ true
        → (if b then 0 else 1 + number_in (names ++ new ∷ []) word) ≡ (if b then 0 else 1 + number_in names word)
    by true rest g = refl
    by false rest g = ap (λ n. 1 + n) (rest g)

-- ---- some names more

is_among-with_name : (names : List (List ℕ)) (new word : List ℕ) → is_among names word ≡ true → is_among (with_name names new) word ≡ true
is_among-with_name names new word h = by (is_among names new)
  where
    by : (b : Bool) → is_among (if b then names else names ++ new ∷ []) word ≡ true
    by true = h
    by false = is_among-push names new word h

is_among-with_own_name : (names : List (List ℕ)) (word : List ℕ) → is_among (with_name names word) word ≡ true
is_among-with_own_name names word = by (is_among names word) refl
  where
    by : (b : Bool) → is_among names word ≡ b → is_among (if b then names else names ++ word ∷ []) word ≡ true
    by true h = h
    by false h = is_among-new names word

number_in-with_name : (names : List (List ℕ)) (new word : List ℕ) → is_among names word ≡ true
    → number_in (with_name names new) word ≡ number_in names word
number_in-with_name names new word h = by (is_among names new)
  where
    by : (b : Bool) → number_in (if b then names else names ++ new ∷ []) word ≡ number_in names word
    by true = refl
    by false = number_in-push names new word h

pub is_among-with_names : (names words : List (List ℕ)) (word : List ℕ) → is_among names word ≡ true
    → is_among (with_names names words) word ≡ true
is_among-with_names names [] word h = h
is_among-with_names names (new ∷ words) word h = is_among-with_names (with_name names new) words word (is_among-with_name names new word h)

pub number_in-with_names : (names words : List (List ℕ)) (word : List ℕ) → is_among names word ≡ true
    → number_in (with_names names words) word ≡ number_in names word
number_in-with_names names [] word h = refl
number_in-with_names names (new ∷ words) word h =
    number_in-with_names (with_name names new) words word (is_among-with_name names new word h) ∙ number_in-with_name names new word h

-- each of some words is among the names with them
pub all_among-with_names : (names words : List (List ℕ)) → list_all (is_among (with_names names words)) words ≡ true
all_among-with_names names [] = refl
all_among-with_names names (word ∷ words) =
    and (is_among (with_names (with_name names word) words) word) (list_all (is_among (with_names (with_name names word) words)) words)
    (is_among-with_names (with_name names word) words word (is_among-with_own_name names word))
    (all_among-with_names (with_name names word) words)

pub with_names-append : (names words more : List (List ℕ)) → with_names names (words ++ more) ≡ with_names (with_names names words) more
with_names-append names [] more = refl
with_names-append names (word ∷ words) more = with_names-append (with_name names word) words more

-- ---- lines

-- the names of each of these lines are among these
abbrev pub are_named : List (List ℕ) → List Numbered → Bool
are_named names lines = list_all (λ l. list_all (is_among names) (names_of l.said.asked)) lines

all_in_parts : (test : List ℕ → Bool) (lines : List Numbered) → list_all test (flat_map (λ l. names_of l.said.asked) lines) ≡ true
    → list_all (λ l. list_all test (names_of l.said.asked)) lines ≡ true
all_in_parts test [] h = refl
all_in_parts test (line ∷ lines) h =
    let own = names_of line.said.asked in
    let p = and_parts (list_all test own) _ (sym (list_all-append test own (flat_map (λ l. names_of l.said.asked) lines)) ∙ h) in
    and (list_all test own) _ p.0 (all_in_parts test lines p.1)

pub are_named-script_names : (lines : List Numbered) → are_named (script_names lines) lines ≡ true
are_named-script_names lines =
    all_in_parts (is_among (script_names lines)) lines (all_among-with_names [] (flat_map (λ l. names_of l.said.asked) lines))

-- what a word says stays, where its name is among the names
field_by-with_names : (names words : List (List ℕ)) (p : Part) (word : List ℕ) → (is_name_part p ≡ true → is_among names word ≡ true)
    → field_by (with_names names words) p word ≡ field_by names p word
field_by-with_names names words (part.Name naming) word h = ap field.Name (number_in-with_names names words word (h refl))
field_by-with_names names words part.Value word h = refl
field_by-with_names names words part.Count word h = refl
field_by-with_names names words part.Rounds word h = refl
field_by-with_names names words part.Test word h = refl

-- ---- words taken one by one

-- the word at a place is asked to be what the part at this place asks for
pub asked_at : (parts : List Part) (words : List (Bor (List ℕ))) (i : ℕ) (none : Bor (List ℕ)) (d : Asked) → i < length words
    → record { part = part_at parts i; word = (get_or words i none).now } ≡ get_or (asked_of parts (map (λ w. w.now) words)) i d
asked_at parts [] i none d within = absurd (omega (arith, within))
asked_at [] (first ∷ words) zero none d within = refl
asked_at [] (first ∷ words) (suc i) none d within = asked_at [] words i none d (omega (arith, within))
asked_at (one ∷ parts) (first ∷ words) zero none d within = refl
asked_at (one ∷ parts) (first ∷ words) (suc i) none d within = asked_at parts words i none d (omega (arith, within))

-- from a place on, it comes before those behind it
names_from : (words : List (Bor (List ℕ))) (i : ℕ) (none : Bor (List ℕ)) → i < length words
    → asked_of [] (map (λ w. w.now) (drop i words)) ≡ record { part = part.Name naming.Further; word = (get_or words i none).now }
    ∷ asked_of [] (map (λ w. w.now) (drop (suc i) words))
names_from [] i none within = absurd (omega (arith, within))
names_from (first ∷ words) zero none within = refl
names_from (first ∷ words) (suc i) none within = names_from words i none (omega (arith, within))

pub asked_from : (parts : List Part) (words : List (Bor (List ℕ))) (i : ℕ) (none : Bor (List ℕ)) → i < length words
    → asked_of (drop i parts) (map (λ w. w.now) (drop i words)) ≡ record {
      part = part_at parts i;
      word =
          (get_or words i none).now;
    } ∷ asked_of (drop (suc i) parts) (map (λ w. w.now) (drop (suc i) words))
asked_from parts [] i none within = absurd (omega (arith, within))
asked_from [] words i none within =
    let word : Asked = record { part = part.Name naming.Further; word = (get_or words i none).now } in
    ap (λ p. asked_of p (map (λ w. w.now) (drop i words))) (drop-nil i) ∙ names_from words i none within ∙ ap
    (λ p. word ∷ asked_of p (map (λ w. w.now) (drop (suc i) words))) (sym (drop-nil (suc i)))
asked_from (one ∷ parts) (first ∷ words) zero none within = refl
asked_from (one ∷ parts) (first ∷ words) (suc i) none within = asked_from parts words i none (omega (arith, within))

module _ (asked : List Asked) (i : ℕ) (word : Asked) (within : i < length asked) (is : word ≡ get_or asked i word) where
  rest : drop i asked ≡ word ∷ drop (i + 1) asked
  rest =
      drop-cons asked i word within ∙ ap (λ (x : Asked). x ∷ drop (suc i) asked) (sym is) ∙ sym (ap (λ k. word ∷ drop k asked) (add-one i))

  -- the words from it on are right where it and those behind it are
  pub right_in_turn : list_all is_right (drop i asked) ≡ (is_right word && list_all is_right (drop (i + 1) asked))
  right_in_turn = ap (list_all is_right) rest

  done : take (i + 1) asked ≡ take i asked ++ word ∷ []
  done = rw add-one (take-suc asked i word within ∙ ap (λ (x : Asked). take i asked ++ x ∷ []) (sym is))

  -- the name of a word is added in its turn
  pub name_taken : (names : List (List ℕ))
      → with_names (if is_name_part word.part then with_name names word.word else names) (names_of (drop (i + 1) asked)) ≡ with_names
      names (names_of (drop i asked))
  name_taken names = by (is_name_part word.part) ∙ ap (λ l. with_names names (names_of l)) (sym rest)
    where
      by : (b : Bool) → with_names (if b then with_name names word.word else names) (names_of (drop (i + 1) asked))
          ≡ with_names names
          (map (λ a. a.word)
          (cond b (word ∷ filter (λ a. is_name_part a.part) (drop (i + 1) asked))
          (filter (λ a. is_name_part a.part) (drop (i + 1) asked))))
      by true = refl
      by false = refl

  -- what it says is what it says by all names
  pub field_taken : (names more : List (List ℕ))
      → field_by (if is_name_part word.part then with_name names word.word else names) word.part word.word ≡ field_of
      (with_names (if is_name_part word.part then with_name names word.word else names) more) word
  field_taken names more =
      sym
      (field_by-with_names (if is_name_part word.part then with_name names word.word else names) more word.part word.word
      (λ yes. rw yes (is_among-with_own_name names word.word)))

  pub fields_taken : (f : Asked → Field) (fields : List Field) (field : Field) → fields ≡ map f (take i asked) → field ≡ f word
      → fields ++ field ∷ [] ≡ map f (take (i + 1) asked)
  fields_taken f fields field before own = rw (before, own) (sym (ap (map f) done ∙ map-append f (take i asked) (word ∷ [])))

-- ---- lines by more names

pub fields-with_names : (names words : List (List ℕ)) (asked : List Asked) → list_all (is_among names) (names_of asked) ≡ true
    → map (field_of (with_names names words)) asked ≡ map (field_of names) asked
fields-with_names names words [] h = refl
fields-with_names names words (a ∷ asked) h = by (fields-with_names names words asked) (is_name_part a.part) refl h
  where
    by : (list_all (is_among names) (names_of asked) ≡ true → map (field_of (with_names names words)) asked ≡ map (field_of names) asked)
        → (b : Bool) → is_name_part a.part ≡ b
        → list_all (is_among names)
        (map (λ a. a.word) (cond b (a ∷ filter (λ a. is_name_part a.part) asked) (filter (λ a. is_name_part a.part) asked))) ≡ true
        → map (field_of (with_names names words)) (a ∷ asked) ≡ map (field_of names) (a ∷ asked)
    by later true e g =
        let p = and_parts (is_among names a.word) _ g in
        let one = field_by-with_names names words a.part a.word (λ _. p.0) in
        let rest = later p.1 in
        cc
    by later false e g =
        let one = field_by-with_names names words a.part a.word (λ yes. absurd (true≢false (sym yes ∙ e))) in
        let rest = later g in
        cc

pub lines-with_names : (names words : List (List ℕ)) (lines : List Numbered) → are_named names lines ≡ true
    → map (line_by (with_names names words)) lines ≡ map (line_by names) lines
lines-with_names names words [] h = refl
lines-with_names names words (line ∷ lines) h =
    let p = and_parts (list_all (is_among names) (names_of line.said.asked)) _ h in
    let fields = fields-with_names names words line.said.asked p.0 in
    let make : List Field → Line = λ f. record { number = line.number; form = form_by line.said.kind f } in
    let one : line_by (with_names names words) line ≡ line_by names line = ap make fields in
    let rest = lines-with_names names words lines p.1 in
    cc
