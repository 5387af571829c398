use Rattle.std.proofs.Common.{◌≡◌, ◌+◌, ◌<◌, ◌≤◌, ◌&&◌, true, false, List, [], ℕ, Bor, Option, IfSome, is_some, drop, take, map, get_or, length, sym, ap, subst, ◌∙◌, if◌then◌else◌, arith}
use Rattle.std.proofs.Math.ListN.{drop_of_length-le}
use Rattle.std.proofs.Math.Seq.{take-length}
use Rattle.std.proofs.lemmas.List.{length-map}
use Rattle.std.specs.List.{list_all}
use Rattle.action_script.specs.Lines.Asked.{Asked}
use Rattle.action_script.specs.declared.lines.field.Part.{Part}
use Rattle.action_script.specs.declared.lines.field.Field.{Field}
use Rattle.action_script.specs.Words.NumberedNames.{with_name, with_names}
use Rattle.action_script.specs.Lines.Spelling.{asked_of, is_part, is_right, names_of, field_by, field_of, is_name_part}
use Rattle.action_script.specs.inner.OneLine.{part_at}
use Rattle.action_script.proofs.OnWords.NamesCounted.{length-taken}
use Rattle.action_script.proofs.OnLines.Speaking.{length-asked_of}
use Rattle.action_script.proofs.OnLines.Steadiness.{asked_at, right_in_turn, name_taken, field_taken, fields_taken}
use Rattle.action_script.proofs.lines.asked.take_fields.Goals as goal

module _ (parts : List Part) (words : List (Bor (List ℕ))) where
  abbrev all : List Asked
  all = asked_of parts (map (λ w. w.now) words)

  as_many : length all ≡ length words
  as_many = length-asked_of parts (map (λ w. w.now) words) ∙ length-map words (λ w. w.now)

  -- the word at a place, and what it is asked to be
  abbrev asked_word : ℕ → Asked
  asked_word i = record { part = part_at parts i; word = (get_or words i (record { ref_ptr = (0, 0); now = [] })).now }

  within : (i : ℕ) → i < length words → i < length all
  within i l = omega (arith, as_many, l)

  there : (i : ℕ) → i < length words → asked_word i ≡ get_or all i (asked_word i)
  there i l = asked_at parts words i (record { ref_ptr = (0, 0); now = [] }) (asked_word i) l

pub returns-in-None-clause-right : goal.returns-in-None-clause-right
returns-in-None-clause-right c =
    let parts = c.args.parts.now in
    let words = c.args.words.now in
    let i = c.loop-index.index in
    let test = c.loop-index-test.true in
    let word = asked_word parts words i in
    let wrong : is_right word ≡ false =
    ap (λ p. is_part p word.word) (sym c.part_at.ensures) ∙ sym c.in_ok-field.ensures.right ∙ ap is_some c.in-None.is in
    sym
    (c.loop-index.invariant.right ∙ right_in_turn (all parts words) i word (within parts words i test)
    (there parts words i test) ∙ ap (λ b. b && list_all is_right (drop (i + 1) (all parts words))) wrong)

pub loop-index-preserved : goal.loop-index-preserved
loop-index-preserved c =
    let parts = c.args.parts.now in
    let words = c.args.words.now in
    let i = c.loop-index.index in
    let test = c.loop-index-test.true in
    let own = all parts words in
    let word = asked_word parts words i in
    let inside = within parts words i test in
    let at = there parts words i test in
    let old = c.loop-index.names in
    let grown : List (List ℕ) = if is_name_part word.part then with_name old word.word else old in
    let some : is_some c.in_ok-field.field-0 ≡ true = ap is_some c.in-Some.is in
    let right : is_right word ≡ true = ap (λ p. is_part p word.word) (sym c.part_at.ensures) ∙ sym c.in_ok-field.ensures.right ∙ some in
    let added : c.take_field.new.names ≡ grown =
    c.in_ok-field.ensures.added some ∙ ap (λ p. if is_name_part p then with_name old word.word else old) c.part_at.ensures in
    let rest = names_of (drop (i + 1) own) in
    let names : with_names c.take_field.new.names rest ≡ with_names c.args.names.now (names_of own) =
    ap (λ n. with_names n rest) added ∙ name_taken own i word inside at old ∙ c.loop-index.invariant.names in
    let said : c.in-Some.field ≡ field_by c.take_field.new.names c.part_at.result word.word =
    subst (λ (o : Option Field). IfSome o (λ f. f ≡ field_by c.take_field.new.names c.part_at.result word.word)) c.in-Some.is
    c.in_ok-field.ensures.taken in
    let taken : c.in-Some.field ≡ field_of (with_names c.args.names.now (names_of own)) word =
    said ∙ ap (λ p. field_by c.take_field.new.names p word.word) c.part_at.ensures ∙ ap (λ n. field_by n word.part word.word) added
    ∙ field_taken own i word inside at old rest ∙ ap (λ n. field_of n word) (ap (λ n. with_names n rest) (sym added) ∙ names) in
    record {
      names = names;
      fields =
          c.in_ok-push-in-Some.ensures.items ∙ fields_taken own i word inside at (field_of (with_names c.args.names.now (names_of own)))
          c.loop-index.fields.items c.in-Some.field c.loop-index.invariant.fields taken;
      right = c.loop-index.invariant.right ∙ right_in_turn own i word inside at ∙ ap (λ b. b && list_all is_right (drop (i + 1) own)) right;
      few = omega (arith, ap length added, length-taken (is_name_part word.part) old word.word, c.loop-index.invariant.few);
    }

pub returns-clause-right : goal.returns-clause-right
returns-clause-right c =
    let own = all c.args.parts.now c.args.words.now in
    sym
    (c.loop-index.invariant.right
    ∙ ap (list_all is_right)
    (drop_of_length-le own (omega (arith, as_many c.args.parts.now c.args.words.now, c.loop-index-test.false))))

pub returns-clause-taken : goal.returns-clause-taken
returns-clause-taken c = λ yes.
    let own = all c.args.parts.now c.args.words.now in
    let past : length own ≤ c.loop-index.index = omega (arith, as_many c.args.parts.now c.args.words.now, c.loop-index-test.false) in
    let end : c.loop-index.index ≡ length own =
    omega (arith, as_many c.args.parts.now c.args.words.now, c.loop-index-test.false, c.loop-index.auto.index-end) in
    let names : c.loop-index.names ≡ with_names c.args.names.now (names_of own) =
    ap (λ l. with_names c.loop-index.names (names_of l)) (sym (drop_of_length-le own past)) ∙ c.loop-index.invariant.names in
    c.loop-index.invariant.fields ∙ ap (map (field_of (with_names c.args.names.now (names_of own))))
    (ap (λ k. take k own) end ∙ take-length own) ∙ ap (λ n. map (field_of n) own) (sym names)

pub returns-clause-added : goal.returns-clause-added
returns-clause-added c = λ yes.
    let own = all c.args.parts.now c.args.words.now in
    let past : length own ≤ c.loop-index.index = omega (arith, as_many c.args.parts.now c.args.words.now, c.loop-index-test.false) in
    ap (λ l. with_names c.loop-index.names (names_of l)) (sym (drop_of_length-le own past)) ∙ c.loop-index.invariant.names
