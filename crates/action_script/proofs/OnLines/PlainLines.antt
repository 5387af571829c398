-- A line whose words are right has plain bytes alone, so its bytes need a look only where a word is wrong.
use Rattle.std.proofs.Common.{◌≡◌, ◌≢◌, ℕ, ◌+◌, ◌≤◌, Bool, true, false, cond, if◌then◌else◌, List, [], ◌∷◌, length, Option, Some, None, Result, Ok, Err, bytes_eq, refl, sym, subst, ap, ◌∙◌, arith}
use Rattle.std.specs.List.{list_all, slice_split, onto_first}
use Rattle.std.proofs.lemmas.Bool.{and_parts, le-ltb}
use Rattle.std.proofs.lemmas.Slice.Eq.{bytes_eq-Decides}
use Rattle.caa_base.specs.Written.Limits.{most_line_bytes}
use Rattle.action_script.specs.declared.script_error.ScriptCause.{ScriptCause}
use Rattle.action_script.specs.declared.script_error.ScriptCause.TheVariants as cause
use Rattle.action_script.specs.declared.lines.field.Part.{Part}
use Rattle.action_script.specs.declared.lines.field.Part.TheVariants as part
use Rattle.action_script.specs.declared.lines.sort.Naming.TheVariants as naming
use Rattle.action_script.specs.declared.lines.kind.Section.{Section}
use Rattle.action_script.specs.declared.lines.kind.LineKind.{LineKind}
use Rattle.action_script.specs.Lines.Asked.{Asked, Said}
use Rattle.action_script.specs.Words.CutLines.{filled_of, is_blank, is_plain, words_of, begins_comment}
use Rattle.action_script.specs.Lines.Kinds.{word_of, parts_of, takes, kinds}
use Rattle.action_script.specs.Lines.Spelling.{asked_of, is_part, is_right, is_here, kind_here, trial_of, said_with, by_check, by_kind, line_by_words, line_of}
use Rattle.action_script.specs.inner.OneLine.{IsOfKind}
use Rattle.action_script.proofs.OnWords.Pieces.{some_piece}
use Rattle.action_script.proofs.OnWords.Inky.{IsWord, right_word, first_word}
use Rattle.action_script.proofs.OnWords.JoinedAndCut.{inky_plain, each_byte}
use Rattle.action_script.proofs.OnWords.NamesCounted.{length-words_of}
use Rattle.action_script.proofs.OnForms.PrintedLines.{trial_of-right}
use Rattle.action_script.proofs.OnLines.Speaking.{Speaks, find-passes}
use Rattle.action_script.proofs.OnForms.WellRead.{right_checked}

-- pieces of plain bytes alone
abbrev are_plain : List (List ℕ) → Bool
are_plain pieces = list_all (list_all is_plain) pieces

-- ---- from the words to the line

filled_plain : (pieces : List (List ℕ)) → are_plain (filled_of pieces) ≡ true → are_plain pieces ≡ true
filled_plain [] h = refl
filled_plain ([] ∷ pieces) h = filled_plain pieces h
filled_plain ((b ∷ piece) ∷ pieces) h = let p = and_parts (list_all is_plain (b ∷ piece)) _ h in rw (p.0, filled_plain pieces p.1) refl

onto_plain : (b : ℕ) (pieces : List (List ℕ)) → pieces ≢ [] → are_plain (onto_first b pieces) ≡ true
    → (is_plain b ≡ true) × (are_plain pieces ≡ true)
onto_plain b [] some h = absurd (some refl)
onto_plain b (piece ∷ pieces) some h =
    let p = and_parts (list_all is_plain (b ∷ piece)) _ h in
    let q = and_parts (is_plain b) _ p.0 in
    (q.0, rw (q.1, p.1) refl)

split_plain : (line : List ℕ) → are_plain (slice_split is_blank line) ≡ true → list_all is_plain line ≡ true
split_plain [] h = refl
split_plain (b ∷ line) h = by (is_blank b) refl h (split_plain line)
  where
    by : (blank : Bool) → is_blank b ≡ blank
        → are_plain (cond blank ([] ∷ slice_split is_blank line) (onto_first b (slice_split is_blank line))) ≡ true
        → (are_plain (slice_split is_blank line) ≡ true → list_all is_plain line ≡ true) → list_all is_plain (b ∷ line) ≡ true
    by true e g rest = rw (e, rest g) refl
    by false e g rest = let p = onto_plain b (slice_split is_blank line) (some_piece is_blank line) g in rw (p.0, rest p.1) refl

-- ---- the words

word_plain : (word : List ℕ) → IsWord word → list_all is_plain word ≡ true
word_plain word h = each_byte is_plain inky_plain word h.inky

right_plain : (parts : List Part) (words : List (List ℕ)) → list_all is_right (asked_of parts words) ≡ true → are_plain words ≡ true
right_plain parts [] h = refl
right_plain [] (word ∷ words) h =
    let p = and_parts (is_part (part.Name naming.Further) word) _ h in
    rw (word_plain word (right_word (part.Name naming.Further) word p.0), right_plain [] words p.1) refl
right_plain (one ∷ parts) (word ∷ words) h =
    let p = and_parts (is_part one word) _ h in
    rw (word_plain word (right_word one word p.0), right_plain parts words p.1) refl

speaks_plain : (s : Section) (line : List ℕ) (said : Said) → Speaks s line said → list_all is_plain line ≡ true
speaks_plain s line said h =
    let here = and_parts (bytes_eq h.first (word_of said.kind)) _ h.here in
    let same : h.first ≡ word_of said.kind = (bytes_eq-Decides h.first (word_of said.kind)).0 here.0 in
    let first : list_all is_plain h.first ≡ true = word_plain h.first (subst IsWord (sym same) (first_word said.kind)) in
    let right : list_all is_right (asked_of (parts_of said.kind) h.words) ≡ true =
    subst (λ a. list_all is_right a ≡ true) h.asked (right_checked said.asked h.right) in
    split_plain line
    (filled_plain (slice_split is_blank line) (ap are_plain h.cut ∙ rw (first, right_plain (parts_of said.kind) h.words right) refl))

-- ---- a line by its words

cut_line : (s : Section) (line : List ℕ) (words : List (List ℕ)) → length line ≤ most_line_bytes → words_of line ≡ words
    → line_of s line ≡ line_by_words s (list_all is_plain line) words
cut_line s line words short cut =
    ap (λ b. if b then Err cause.TooLong else line_by_words s (list_all is_plain line) (words_of line))
    (le-ltb most_line_bytes (length line) short)
    ∙ ap (line_by_words s (list_all is_plain line)) cut

module _ (s : Section) (line first : List ℕ) (words : List (List ℕ)) (short : length line ≤ most_line_bytes)
    (cut : words_of line ≡ first ∷ words) where
  abbrev pub by_comment : Bool → Result (Option Said) ScriptCause
  by_comment b =
      if b then Ok None else (if list_all is_plain line then by_kind words (kind_here s first (length words)) else Err cause.BadLine)

  abbrev pub by_found : Option LineKind → Result (Option Said) ScriptCause
  by_found kind = if list_all is_plain line then by_kind words kind else Err cause.BadLine

  -- any other line is judged by its kind
  pub line_found : (kind : Option LineKind) → begins_comment first ≡ false → kind_here s first (length words) ≡ kind
      → line_of s line ≡ by_found kind
  line_found kind spoken here = cut_line s line (first ∷ words) short cut ∙ ap by_comment spoken ∙ ap by_found here

module _ (s : Section) (line : List ℕ) (kind : LineKind) (words : List (List ℕ)) (h : IsOfKind s line kind words) where
  abbrev pub asked : List Asked
  asked = asked_of (parts_of kind) words

  abbrev pub by_plain : Bool → Result (Option Said) ScriptCause
  by_plain plain = if plain then by_check (said_with kind words) (trial_of asked) else Err cause.BadLine

  judged : line_of s line ≡ by_plain (list_all is_plain line)
  judged = line_found s line h.first words h.short h.cut (Some kind) h.spoken h.here

  -- words that are right are said
  pub said_right : list_all is_right asked ≡ true → line_of s line ≡ Ok (Some (said_with kind words))
  said_right right =
      let tried : trial_of asked ≡ Ok tt = trial_of-right asked right in
      let said : Speaks s line (said_with kind words) = record {
        first = h.first;
        words = words;
        short = h.short;
        cut = h.cut;
        spoken = h.spoken;
        here = find-passes (is_here s h.first (length words)) kinds kind h.here;
        asked = refl;
        right = tried;
      } in
      judged ∙ ap by_plain (speaks_plain s line (said_with kind words) said) ∙ ap (by_check (said_with kind words)) tried

  -- words with a fault have it in a plain line, and any other is a bad line
  pub fault_told : (fault : ScriptCause) → trial_of asked ≡ Err fault
      → line_of s line ≡ Err (if list_all is_plain line then fault else cause.BadLine)
  fault_told fault tried = judged ∙ by (list_all is_plain line)
    where
      by : (b : Bool) → by_plain b ≡ Err (if b then fault else cause.BadLine)
      by true = ap (by_check (said_with kind words)) tried
      by false = refl

-- it has as many words as its kind takes
pub kind_takes : (s : Section) (line : List ℕ) (kind : LineKind) (words : List (List ℕ)) → IsOfKind s line kind words
    → takes kind (length words) ≡ true
kind_takes s line kind words h =
    let here = and_parts (bytes_eq h.first (word_of kind)) _ (find-passes (is_here s h.first (length words)) kinds kind h.here) in
    (and_parts (takes kind (length words)) _ here.1).0

-- and no more than bytes
pub kind_short : (s : Section) (line : List ℕ) (kind : LineKind) (words : List (List ℕ)) → IsOfKind s line kind words
    → length words + 1 ≤ length line
kind_short s line kind words h = omega (arith, ap length h.cut, length-words_of line)
