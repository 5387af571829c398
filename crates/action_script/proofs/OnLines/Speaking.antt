-- What is known of a line that says something.
use Rattle.std.proofs.Common.{◌≡◌, ℕ, ◌≤◌, Bool, true, false, cond, if◌then◌else◌, nat_lt, List, [], ◌∷◌, length, Option, Some, None, Result, Ok, Err, find, bytes_eq, refl, sym, ap, ◌∙◌, arith, subst}
use Rattle.std.specs.List.{list_all}
use Rattle.std.proofs.lemmas.Bool.{ltb-false, and_parts}
use Rattle.action_script.specs.declared.script_error.ScriptCause.{ScriptCause}
use Rattle.action_script.specs.declared.script_error.ScriptCause.TheVariants as cause
use Rattle.action_script.specs.declared.lines.field.Part.{Part}
use Rattle.action_script.specs.declared.lines.kind.Section.{Section}
use Rattle.action_script.specs.declared.lines.kind.LineKind.{LineKind}
use Rattle.action_script.specs.Lines.Asked.{Said}
use Rattle.caa_base.specs.Written.Limits.{most_line_bytes}
use Rattle.action_script.specs.Words.CutLines.{words_of, is_plain, begins_comment}
use Rattle.action_script.specs.Lines.Kinds.{word_of, parts_of, takes, kinds}
use Rattle.action_script.proofs.OnWords.NamesCounted.{length-words_of}
use Rattle.action_script.specs.Lines.Spelling.{asked_of, is_here, kind_here, trial_of, by_check, by_kind, line_by_words, line_of}

pub record Speaks (s : Section) (line : List ℕ) (said : Said) : Type 0 where
  pub first : List ℕ
  pub words : List (List ℕ)
  pub short : length line ≤ most_line_bytes
  pub cut : words_of line ≡ first ∷ words
  pub spoken : begins_comment first ≡ false
  pub here : is_here s first (length words) said.kind ≡ true
  pub asked : said.asked ≡ asked_of (parts_of said.kind) words
  pub right : trial_of said.asked ≡ Ok tt

-- what is found passes
pub find-passes : {A : Type 0} (test : A → Bool) (xs : List A) (x : A) → find test xs ≡ Some x → test x ≡ true
find-passes test [] x h = cc
find-passes test (y ∷ xs) x h = by (test y) refl h (find-passes test xs x)
  where
    by : (b : Bool) → test y ≡ b → cond b (Some y) (find test xs) ≡ Some x → (find test xs ≡ Some x → test x ≡ true) → test x ≡ true
    by true e g rest = let same : y ≡ x = cc in subst (λ z. test z ≡ true) same e
    by false e g rest = rest g

by_words : (s : Section) (line : List ℕ) (said : Said) → length line ≤ most_line_bytes → (plain : Bool) (words : List (List ℕ))
    → words_of line ≡ words → line_by_words s plain words ≡ Ok (Some said) → Speaks s line said
by_words s line said short plain [] cut h = cc
by_words s line said short plain (first ∷ words) cut h = by_comment (begins_comment first) refl h
  where
    by_found : begins_comment first ≡ false → (kind : LineKind) → kind_here s first (length words) ≡ Some kind
        → (r : Result (Unit {0}) ScriptCause) → trial_of (asked_of (parts_of kind) words) ≡ r
        → by_check (record { kind = kind; asked = asked_of (parts_of kind) words }) r ≡ Ok (Some said) → Speaks s line said
    by_found spoken kind found (Err c) e g = cc
    by_found spoken kind found (Ok u) e g =
        let same : record { kind = kind; asked = asked_of (parts_of kind) words } ≡ said = cc in
        subst (Speaks s line) same (record {
          first = first;
          words = words;
          short = short;
          cut = cut;
          spoken = spoken;
          here = find-passes (is_here s first (length words)) kinds kind found;
          asked = refl;
          right = e;
        })

    by_kinds : begins_comment first ≡ false → (k : Option LineKind) → kind_here s first (length words) ≡ k
        → by_kind words k ≡ Ok (Some said) → Speaks s line said
    by_kinds spoken None e g = cc
    by_kinds spoken (Some kind) e g = by_found spoken kind e (trial_of (asked_of (parts_of kind) words)) refl g

    by_plain : begins_comment first ≡ false → (b : Bool)
        → (if b then by_kind words (kind_here s first (length words)) else Err cause.BadLine) ≡ Ok (Some said) → Speaks s line said
    by_plain spoken true g = by_kinds spoken (kind_here s first (length words)) refl g
    by_plain spoken false g = cc

    by_comment : (b : Bool) → begins_comment first ≡ b
        → (if b then Ok None else (if plain then by_kind words (kind_here s first (length words)) else Err cause.BadLine)) ≡ Ok (Some said)
        → Speaks s line said
    by_comment true e g = cc
    by_comment false e g = by_plain e plain g

pub speaks : (s : Section) (line : List ℕ) (said : Said) → line_of s line ≡ Ok (Some said) → Speaks s line said
speaks s line said h = by (nat_lt most_line_bytes (length line)) refl h
  where
    by : (b : Bool) → nat_lt most_line_bytes (length line) ≡ b
        → (if b then Err cause.TooLong else line_by_words s (list_all is_plain line) (words_of line)) ≡ Ok (Some said) → Speaks s line said
    by true e g = cc
    by false e g = by_words s line said (ltb-false most_line_bytes (length line) e) (list_all is_plain line) (words_of line) refl g

-- ---- what follows

pub length-asked_of : (parts : List Part) (words : List (List ℕ)) → length (asked_of parts words) ≡ length words
length-asked_of parts [] = refl
length-asked_of [] (word ∷ words) = grind (arith, length-asked_of [] words)
length-asked_of (p ∷ parts) (word ∷ words) = grind (arith, length-asked_of parts words)

pub speaks-takes : (s : Section) (line : List ℕ) (said : Said) → Speaks s line said → takes said.kind (length said.asked) ≡ true
speaks-takes s line said h =
    let here = (and_parts (bytes_eq h.first (word_of said.kind)) _ h.here).1 in
    let count : length said.asked ≡ length h.words = ap length h.asked ∙ length-asked_of (parts_of said.kind) h.words in
    subst (λ n. takes said.kind n ≡ true) (sym count) (and_parts (takes said.kind (length h.words)) _ here).0

-- it has no more words than bytes
pub speaks-short : (s : Section) (line : List ℕ) (said : Said) → Speaks s line said → length said.asked ≤ length line
speaks-short s line said h =
    omega (arith, ap length h.asked, length-asked_of (parts_of said.kind) h.words, ap length h.cut, length-words_of line)
