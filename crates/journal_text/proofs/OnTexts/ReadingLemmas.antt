-- What bytes share with texts, and that a text tells its journal.
use Rattle.std.proofs.Common.{◌≡◌, ℕ, ◌<◌, ◌≤◌, ◌+◌, ◌^◌, ◌==◌, true, false, cond, not, List, [], ◌∷◌, ◌++◌, length, reverse, codes, bytes_eq, None, refl, sym, ap, ◌∙◌, subst, inl, inr, ◌⊎◌, arith, suc, append_assoc, drop, decimal}
use Rattle.std.specs.List.{AllByRecursion, flat_map, range_with_len}
use Rattle.std.proofs.lemmas.Bool.{cond-true, cond-false, cases_eq, cases_Bool, and_parts, eq-eqb, ne_eqb, not-true, false≢true}
use Rattle.std.proofs.lemmas.Slice.Eq.{bytes_eq-Decides}
use Rattle.std.specs.Fmt.{signed_decimal}
use Rattle.std.proofs.lemmas.List.{append_cancel_left, drop_all, length-append}
use Rattle.place_plan.specs.RulesOfJournals.Objects.{value_of}
use Rattle.caa_base.specs.Written.Lines.{spaced, line}
use Rattle.caa_base.specs.declared.written.entry.Entry.{Entry}
use Rattle.caa_base.specs.declared.written.entry.Kind.{Kind}
use Rattle.place_plan.specs.Plans.PlanValue.{Plan}
use Rattle.place_plan.specs.RulesOfJournals.WellFormed.{IsWellFormed}
use Rattle.journal_text.specs.declared.looks.seens.Seen.{Seen}
use Rattle.journal_text.specs.Texts.Naming.{is_well_named}
use Rattle.journal_text.specs.Texts.Text.{kind_word, participant_name, field_words, entry_line, seen_line, object_line, object_words, object_name, watched_object, action_name, ending_words, last_outcome, outcome_line, closing_lines}
use Rattle.journal_text.specs.inner.Tokens.{is_whole, BeginsWithGap}
use Rattle.journal_text.specs.Texts.TextOfJournal.{lines_shared}
use Rattle.journal_text.specs.inner.TextSteps.{BeginsNoEntry}
use Rattle.journal_text.proofs.OnTexts.WordLemmas.{word-told, begins-line, line-words}
use Rattle.journal_text.proofs.OnTexts.EntryLines.{kind_in, not_kind, kind-whole, entry-told, IsLine, is_unbroken, entry_line-is}

-- ---- lines that two texts share

step-same : (a : ℕ) (x y : List ℕ) → lines_shared (a ∷ x) (a ∷ y) ≡ cond (a == 10) (suc (lines_shared x y)) (lines_shared x y)
step-same a x y = cond-true (a == a) _ _ (eq-eqb a a refl)

step-other : (a b : ℕ) (x y : List ℕ) → (a ≡ b → ⊥) → lines_shared (a ∷ x) (b ∷ y) ≡ 0
step-other a b x y h = cond-false (a == b) _ _ (ne_eqb a b h)

shared-turned : (x y : List ℕ) → lines_shared x y ≡ lines_shared y x
shared-turned [] [] = refl
shared-turned [] (b ∷ y) = refl
shared-turned (a ∷ x) [] = refl
shared-turned (a ∷ x) (b ∷ y) = by (cases_eq a b) (shared-turned x y)
  where
    by : (a ≡ b) ⊎ (a ≡ b → ⊥) → lines_shared x y ≡ lines_shared y x → lines_shared (a ∷ x) (b ∷ y) ≡ lines_shared (b ∷ y) (a ∷ x)
    by (inl same) rest = subst (λ c. lines_shared (a ∷ x) (c ∷ y) ≡ lines_shared (c ∷ y) (a ∷ x)) same
        (step-same a x y ∙ ap (λ n. cond (a == 10) (suc n) n) rest ∙ sym (step-same a y x))
    by (inr other) rest = step-other a b x y other ∙ sym (step-other b a y x (λ e. other (sym e)))

pub shared-nothing : (x : List ℕ) → lines_shared x [] ≡ 0
shared-nothing [] = refl
shared-nothing (a ∷ x) = refl

-- a line that both begin with
shared-body : (w x y : List ℕ) → is_unbroken w ≡ true → lines_shared (w ++ 10 ∷ x) (w ++ 10 ∷ y) ≡ suc (lines_shared x y)
shared-body [] x y h = refl
shared-body (c ∷ w) x y h =
    let p = and_parts (not (c == 10)) (is_unbroken w) h in
    step-same c (w ++ 10 ∷ x) (w ++ 10 ∷ y) ∙ cond-false (c == 10) _ _ (not-true _ p.0) ∙ shared-body w x y p.1

pub shared-line : (l x y : List ℕ) → IsLine l → lines_shared (l ++ x) (l ++ y) ≡ suc (lines_shared x y)
shared-line l x y h =
    let cut = λ (r : List ℕ). ap (λ t. t ++ r) h.same ∙ append_assoc h.body (10 ∷ []) r in
    ap (λ t. lines_shared t (l ++ y)) (cut x) ∙ ap (lines_shared (h.body ++ 10 ∷ x)) (cut y) ∙ shared-body h.body x y h.unbroken

-- a line that the other doesn't begin with
shared-none-body : (w x y : List ℕ) → is_unbroken w ≡ true → ((z : List ℕ) → x ≡ w ++ 10 ∷ z → ⊥) → lines_shared x (w ++ 10 ∷ y) ≡ 0
shared-none-body w [] y h n = refl
shared-none-body [] (b ∷ x) y h n = step-other b 10 x y (λ e. n x (ap (λ c. c ∷ x) e))
shared-none-body (c ∷ w) (b ∷ x) y h n = by (cases_eq b c) (λ m. shared-none-body w x y (and_parts (not (c == 10)) (is_unbroken w) h).1 m)
  where
    by : (b ≡ c) ⊎ (b ≡ c → ⊥) → (((z : List ℕ) → x ≡ w ++ 10 ∷ z → ⊥) → lines_shared x (w ++ 10 ∷ y) ≡ 0)
        → lines_shared (b ∷ x) (c ∷ (w ++ 10 ∷ y)) ≡ 0
    by (inl same) rest =
        let other : (c == 10) ≡ false = not-true _ (and_parts (not (c == 10)) (is_unbroken w) h).0 in
        ap (λ d. lines_shared (d ∷ x) (c ∷ (w ++ 10 ∷ y))) same ∙ step-same c x (w ++ 10 ∷ y) ∙ cond-false (c == 10) _ _ other
        ∙ rest (λ z e. n z (ap (λ d. d ∷ x) same ∙ ap (λ t. c ∷ t) e))
    by (inr other) rest = step-other b c x (w ++ 10 ∷ y) other

pub shared-none : (l x y : List ℕ) → IsLine l → ((z : List ℕ) → x ≡ l ++ z → ⊥) → lines_shared x (l ++ y) ≡ 0
shared-none l x y h n =
    let cut = λ (r : List ℕ). ap (λ t. t ++ r) h.same ∙ append_assoc h.body (10 ∷ []) r in
    ap (lines_shared x) (cut y) ∙ shared-none-body h.body x y h.unbroken (λ z e. n z (e ∙ sym (cut z)))

-- a front that both have
pub shared-front : (c x y : List ℕ) → lines_shared (c ++ x) (c ++ y) ≡ lines_shared c c + lines_shared x y
shared-front [] x y = omega arith
shared-front (a ∷ c) x y = by (cases_Bool (a == 10)) (shared-front c x y)
  where
    by : (a == 10 ≡ true) ⊎ (a == 10 ≡ false) → lines_shared (c ++ x) (c ++ y) ≡ lines_shared c c + lines_shared x y
        → lines_shared (a ∷ (c ++ x)) (a ∷ (c ++ y)) ≡ lines_shared (a ∷ c) (a ∷ c) + lines_shared x y
    by (inl feed) rest =
        let one : lines_shared (a ∷ (c ++ x)) (a ∷ (c ++ y)) ≡ suc (lines_shared (c ++ x) (c ++ y)) =
        step-same a (c ++ x) (c ++ y) ∙ cond-true (a == 10) _ _ feed in
        let two : lines_shared (a ∷ c) (a ∷ c) ≡ suc (lines_shared c c) = step-same a c c ∙ cond-true (a == 10) _ _ feed in
        omega (arith, one, two, rest)
    by (inr other) rest =
        let one : lines_shared (a ∷ (c ++ x)) (a ∷ (c ++ y)) ≡ lines_shared (c ++ x) (c ++ y) =
        step-same a (c ++ x) (c ++ y) ∙ cond-false (a == 10) _ _ other in
        let two : lines_shared (a ∷ c) (a ∷ c) ≡ lines_shared c c = step-same a c c ∙ cond-false (a == 10) _ _ other in
        omega (arith, one, two, rest)

-- past a front that the bytes don't have, nothing matters
pub shared-no_front : (r c x y : List ℕ) → ((z : List ℕ) → r ≡ c ++ z → ⊥) → lines_shared r (c ++ x) ≡ lines_shared r (c ++ y)
shared-no_front r [] x y n = absurd (n r refl)
shared-no_front [] (b ∷ c) x y n = refl
shared-no_front (a ∷ r) (b ∷ c) x y n = by (cases_eq a b) (λ m. shared-no_front r c x y m)
  where
    by : (a ≡ b) ⊎ (a ≡ b → ⊥) → (((z : List ℕ) → r ≡ c ++ z → ⊥) → lines_shared r (c ++ x) ≡ lines_shared r (c ++ y))
        → lines_shared (a ∷ r) (b ∷ (c ++ x)) ≡ lines_shared (a ∷ r) (b ∷ (c ++ y))
    by (inl same) rest =
        let tail : lines_shared r (c ++ x) ≡ lines_shared r (c ++ y) = rest (λ z e. n z (ap (λ d. d ∷ r) same ∙ ap (λ t. b ∷ t) e)) in
        subst (λ d. lines_shared (a ∷ r) (d ∷ (c ++ x)) ≡ lines_shared (a ∷ r) (d ∷ (c ++ y))) same
        (step-same a r (c ++ x) ∙ ap (λ n. cond (a == 10) (suc n) n) tail ∙ sym (step-same a r (c ++ y)))
    by (inr other) rest = step-other a b r (c ++ x) other ∙ sym (step-other a b r (c ++ y) other)

-- the same at an index
pub shared-end : (text other : List ℕ) (i : ℕ) → length other ≤ i → lines_shared (drop i text) (drop i other) ≡ 0
shared-end text other i h = ap (lines_shared (drop i text)) (drop_all i other h) ∙ shared-nothing (drop i text)

-- ---- what is no entry line

-- the text begins with the word of no kind
abbrev BeginsNoKind : List ℕ → Type 0
BeginsNoKind text = (k : Kind) (rest : List ℕ) → BeginsWithGap rest → text ≡ kind_word k ++ rest → ⊥

no-kind : (plan : Plan) (text : List ℕ) → BeginsNoKind text → BeginsNoEntry plan text
no-kind plan text none e rest fit same =
    let words = decimal e.place ∷ participant_name plan e.by ∷ field_words e.kind plan e in
    none e.kind (spaced words ++ 10 ∷ rest) (begins-line words rest) (same ∙ line-words (kind_word e.kind) words rest)

line-none : (first : List ℕ) (words : List (List ℕ)) (rest : List ℕ) → is_whole first ≡ true → kind_in first ≡ None
    → BeginsNoKind (line first words ++ rest)
line-none first words rest whole none k more gap same =
    let cut : first ++ (spaced words ++ 10 ∷ rest) ≡ kind_word k ++ more = sym (line-words first words rest) ∙ same in
    not_kind k first none
    (sym (word-told first (kind_word k) (spaced words ++ 10 ∷ rest) more whole (kind-whole k) (begins-line words rest) gap cut).0)

lines-none : {A : Type 0} (line_of : A → List ℕ) (xs : List A) (rest : List ℕ)
    → ((x : A) (more : List ℕ) → BeginsNoKind (line_of x ++ more)) → BeginsNoKind rest
    → BeginsNoKind (flat_map line_of xs ++ rest)
lines-none line_of [] rest each none = none
lines-none line_of (x ∷ xs) rest each none =
    subst BeginsNoKind (sym (append_assoc (line_of x) (flat_map line_of xs) rest)) (each x (flat_map line_of xs ++ rest))

nothing-none : BeginsNoKind []
nothing-none k [] gap same = gap
nothing-none k (b ∷ rest) gap same = absurd (omega (arith, ap length same, length-append (kind_word k) (b ∷ rest)))

-- what follows the entries in a text
abbrev pub tail_of : Plan → List Entry → List Seen → List ℕ
tail_of plan journal seens = closing_lines plan (reverse journal) ++ flat_map (seen_line plan) seens

seens-none : (plan : Plan) (seens : List Seen) → BeginsNoKind (flat_map (seen_line plan) seens)
seens-none plan [] = nothing-none
seens-none plan (s ∷ seens) =
    line-none (codes "seen")
    (object_name plan (watched_object plan s.watch) ∷ decimal s.ends ∷ signed_decimal s.value ∷ [])
    (flat_map (seen_line plan) seens) refl refl

tail-none : (plan : Plan) (journal : List Entry) (seens : List Seen) → BeginsNoKind (tail_of plan journal seens)
tail-none plan journal seens =
    let past = reverse journal in
    let objects = flat_map (object_line plan past) (range_with_len 0 (length plan.objects)) in
    let outcomes = flat_map (outcome_line plan past) (range_with_len 0 (length plan.places)) in
    let rest = flat_map (seen_line plan) seens in
    subst BeginsNoKind (sym (append_assoc objects outcomes rest))
    (lines-none (object_line plan past) (range_with_len 0 (length plan.objects)) (outcomes ++ rest)
    (λ o more. line-none (codes "object") (object_words plan o (value_of plan past o)) more refl refl)
    (lines-none (outcome_line plan past) (range_with_len 0 (length plan.places)) rest
    (λ p more. line-none (codes "outcome") (decimal p ∷ action_name plan p ∷ ending_words plan p (last_outcome past p)) more refl refl)
    (seens-none plan seens)))

pub tail-no-entry : (plan : Plan) (journal : List Entry) (seens : List Seen) → BeginsNoEntry plan (tail_of plan journal seens)
tail-no-entry plan journal seens = no-kind plan (tail_of plan journal seens) (tail-none plan journal seens)

-- ---- entries

-- a plan whose names tell its parts apart
pub record Tells (plan : Plan) : Type 0 where
  pub named : is_well_named plan ≡ true
  pub small : length plan.places < 2 ^ 32

abbrev pub entry_lines : Plan → List Entry → List ℕ
entry_lines plan entries = flat_map (entry_line plan) entries

abbrev pub EachFits : Plan → List Entry → Type 0
EachFits plan entries = AllByRecursion (IsWellFormed plan) entries

same-entry : (plan : Plan) (e j : Entry) (x y : List ℕ) → Tells plan → IsWellFormed plan e → IsWellFormed plan j
    → entry_line plan e ++ x ≡ entry_line plan j ++ y → e ≡ j
same-entry plan e j x y t fe fj same = entry-told plan e j x y t.named t.small fe fj same

pub entries-same : (plan : Plan) (es js : List Entry) (r x : List ℕ) → Tells plan → EachFits plan es → EachFits plan js
    → BeginsNoEntry plan r → BeginsNoEntry plan x
    → entry_lines plan es ++ r ≡ entry_lines plan js ++ x → (es ≡ js) × (r ≡ x)
entries-same plan [] [] r x t fe fj nr nx same = (refl, same)
entries-same plan [] (j ∷ js) r x t fe fj nr nx same =
    absurd (nr j (entry_lines plan js ++ x) fj.0 (same ∙ append_assoc (entry_line plan j) (entry_lines plan js) x))
entries-same plan (e ∷ es) [] r x t fe fj nr nx same =
    absurd (nx e (entry_lines plan es ++ r) fe.0 (sym same ∙ append_assoc (entry_line plan e) (entry_lines plan es) r))
entries-same plan (e ∷ es) (j ∷ js) r x t fe fj nr nx same =
    let cut : entry_line plan e ++ (entry_lines plan es ++ r) ≡ entry_line plan j ++ (entry_lines plan js ++ x) =
    sym (append_assoc (entry_line plan e) (entry_lines plan es) r) ∙ same ∙ append_assoc (entry_line plan j) (entry_lines plan js) x in
    let one : e ≡ j = same-entry plan e j (entry_lines plan es ++ r) (entry_lines plan js ++ x) t fe.0 fj.0 cut in
    let rest : entry_lines plan es ++ r ≡ entry_lines plan js ++ x =
    append_cancel_left (entry_line plan e) (entry_lines plan es ++ r) (entry_lines plan js ++ x)
    (cut ∙ ap (λ k. entry_line plan k ++ (entry_lines plan js ++ x)) (sym one)) in
    let later = entries-same plan es js r x t fe.1 fj.1 nr nx rest in
    (ap (λ k. k ∷ es) one ∙ ap (λ ks. j ∷ ks) later.0, later.1)

-- where no entry follows, there are no more entries
pub front-longest : (plan : Plan) (es js : List Entry) (r x : List ℕ) → Tells plan → EachFits plan es → EachFits plan js
    → BeginsNoEntry plan r
    → entry_lines plan es ++ r ≡ entry_lines plan js ++ x → length js ≤ length es
front-longest plan es [] r x t fe fj nr same = omega arith
front-longest plan [] (j ∷ js) r x t fe fj nr same =
    absurd (nr j (entry_lines plan js ++ x) fj.0 (same ∙ append_assoc (entry_line plan j) (entry_lines plan js) x))
front-longest plan (e ∷ es) (j ∷ js) r x t fe fj nr same =
    let cut : entry_line plan e ++ (entry_lines plan es ++ r) ≡ entry_line plan j ++ (entry_lines plan js ++ x) =
    sym (append_assoc (entry_line plan e) (entry_lines plan es) r) ∙ same ∙ append_assoc (entry_line plan j) (entry_lines plan js) x in
    let one : e ≡ j = same-entry plan e j (entry_lines plan es ++ r) (entry_lines plan js ++ x) t fe.0 fj.0 cut in
    let rest : entry_lines plan es ++ r ≡ entry_lines plan js ++ x =
    append_cancel_left (entry_line plan e) (entry_lines plan es ++ r) (entry_lines plan js ++ x)
    (cut ∙ ap (λ k. entry_line plan k ++ (entry_lines plan js ++ x)) (sym one)) in
    let later = front-longest plan es js r x t fe.1 fj.1 nr rest in
    omega arith

-- entries that both begin with
pub entries-front : (plan : Plan) (es : List Entry) (x y : List ℕ) → Tells plan → EachFits plan es
    → lines_shared (entry_lines plan es ++ x) (entry_lines plan es ++ y) ≡ length es + lines_shared x y
entries-front plan [] x y t f = omega arith
entries-front plan (e ∷ es) x y t f =
    let one =
    shared-line (entry_line plan e) (entry_lines plan es ++ x) (entry_lines plan es ++ y)
    (entry_line-is plan e t.named t.small f.0) in
    let cut : lines_shared (entry_lines plan (e ∷ es) ++ x) (entry_lines plan (e ∷ es) ++ y)
    ≡ lines_shared (entry_line plan e ++ (entry_lines plan es ++ x))
    (entry_line plan e ++ (entry_lines plan es ++ y)) =
    ap (λ z. lines_shared z (entry_lines plan (e ∷ es) ++ y)) (append_assoc (entry_line plan e) (entry_lines plan es) x)
    ∙ ap (lines_shared (entry_line plan e ++ (entry_lines plan es ++ x)))
    (append_assoc (entry_line plan e) (entry_lines plan es) y) in
    omega (arith, cut, one, entries-front plan es x y t f.1)

-- entries that both begin with, and then all that follows; or they differ among the entries
pub entries-shared : (plan : Plan) (es js : List Entry) (r x : List ℕ) → Tells plan → EachFits plan es
    → EachFits plan js → BeginsNoEntry plan r → BeginsNoEntry plan x
    → (es ≡ js) ⊎ (lines_shared (entry_lines plan es ++ r) (entry_lines plan js ++ x) ≤ length es)
entries-shared plan [] [] r x t fe fj nr nx = inl refl
entries-shared plan [] (j ∷ js) r x t fe fj nr nx =
    let none =
    shared-none (entry_line plan j) r (entry_lines plan js ++ x) (entry_line-is plan j t.named t.small fj.0)
    (λ z e. nr j z fj.0 e) in
    let cut = ap (lines_shared r) (append_assoc (entry_line plan j) (entry_lines plan js) x) in
    inr (omega (arith, none, cut))
entries-shared plan (e ∷ es) [] r x t fe fj nr nx =
    let none =
    shared-none (entry_line plan e) x (entry_lines plan es ++ r) (entry_line-is plan e t.named t.small fe.0)
    (λ z q. nx e z fe.0 q) in
    let cut = ap (lines_shared x) (append_assoc (entry_line plan e) (entry_lines plan es) r) in
    inr (omega (arith, none, cut, shared-turned (entry_lines plan (e ∷ es) ++ r) x))
entries-shared plan (e ∷ es) (j ∷ js) r x t fe fj nr nx =
    by (cases_Bool (bytes_eq (entry_line plan e) (entry_line plan j))) (entries-shared plan es js r x t fe.1 fj.1 nr nx)
  where
    ex : List ℕ
    ex = entry_lines plan es ++ r

    jx : List ℕ
    jx = entry_lines plan js ++ x

    cut : lines_shared (entry_lines plan (e ∷ es) ++ r) (entry_lines plan (j ∷ js) ++ x)
        ≡ lines_shared (entry_line plan e ++ ex) (entry_line plan j ++ jx)
    cut =
        ap (λ z. lines_shared z (entry_lines plan (j ∷ js) ++ x))
        (append_assoc (entry_line plan e) (entry_lines plan es) r)
        ∙ ap (lines_shared (entry_line plan e ++ ex)) (append_assoc (entry_line plan j) (entry_lines plan js) x)

    by : (bytes_eq (entry_line plan e) (entry_line plan j) ≡ true) ⊎ (bytes_eq (entry_line plan e) (entry_line plan j) ≡ false)
        → (es ≡ js) ⊎ (lines_shared ex jx ≤ length es)
        → ((e ∷ es) ≡ (j ∷ js)) ⊎ (lines_shared (entry_lines plan (e ∷ es) ++ r) (entry_lines plan (j ∷ js) ++ x) ≤ suc (length es))
    by (inl like) (inl rest) =
        let lines = (bytes_eq-Decides (entry_line plan e) (entry_line plan j)).0 like in
        inl (ap (λ k. k ∷ es) (same-entry plan e j [] [] t fe.0 fj.0 (ap (λ l. l ++ []) lines)) ∙ ap (λ ks. j ∷ ks) rest)
    by (inl like) (inr rest) =
        let lines = (bytes_eq-Decides (entry_line plan e) (entry_line plan j)).0 like in
        let one = shared-line (entry_line plan e) ex jx (entry_line-is plan e t.named t.small fe.0) in
        let turn = ap (λ l. lines_shared (entry_line plan e ++ ex) (l ++ jx)) lines in
        inr (omega (arith, cut, one, turn, rest))
    by (inr unlike) rest =
        let none = shared-none (entry_line plan j) (entry_line plan e ++ ex) jx (entry_line-is plan j t.named t.small fj.0)
        (λ z q. false≢true (sym unlike
        ∙ (bytes_eq-Decides (entry_line plan e) (entry_line plan j)).1
        (ap (entry_line plan) (same-entry plan e j ex z t fe.0 fj.0 q)))) in
        inr (omega (arith, cut, none))
