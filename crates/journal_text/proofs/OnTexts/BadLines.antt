-- The first line that no text has, and that a text tells its journal and looks.
use Rattle.std.proofs.Common.{◌≡◌, ℕ, ◌<◌, ◌≤◌, ◌+◌, true, false, List, [], ◌∷◌, ◌++◌, length, bytes_eq, codes, reverse, Result, Ok, Err, refl, sym, ap, ◌∙◌, subst, inl, inr, ◌⊎◌, arith, suc, append_assoc}
use Rattle.std.specs.List.{AllByRecursion, flat_map}
use Rattle.std.proofs.lemmas.Bool.{cases_Bool, false≢true}
use Rattle.std.proofs.lemmas.List.{append_cancel_left, append-nil}
use Rattle.std.proofs.lemmas.List.Concat.{flat_map-append}
use Rattle.std.proofs.lemmas.List.Elements.{recursion_from_All}
use Rattle.std.proofs.lemmas.Slice.Eq.{bytes_eq-Decides}
use Rattle.caa_base.specs.declared.written.entry.Entry.{Entry}
use Rattle.caa_base.specs.Written.Journal.{Entries}
use Rattle.place_plan.specs.Plans.PlanValue.{Plan}
use Rattle.place_plan.specs.RulesOfJournals.WellFormed.{IsWellFormed, AllWellFormed}
use Rattle.journal_text.specs.declared.looks.seens.Seen.{Seen}
use Rattle.journal_text.specs.declared.texts.text_reader.TextError.{TextError}
use Rattle.journal_text.specs.declared.texts.text_reader.TextError.TheVariants as error
use Rattle.journal_text.specs.Watching.Looks.{Looks, AreInOrder, InOrderFrom, AreOfPlan, IsOfPlan, last_watch}
use Rattle.journal_text.specs.Texts.Text.{seen_line, closing_lines, first_line, text_of}
use Rattle.journal_text.specs.Texts.TextOfJournal.{lines_shared, HasText, IsText, HasTooMany, IsFirstBad, Refuses, Reads, ReadsBack, TextsDiffer}
use Rattle.journal_text.specs.inner.TextSteps.{BeginsNoEntry, BeginsNoSeen, MayCome, EntriesRead, SeensRead, RefusesAfter}
use Rattle.journal_text.proofs.OnTexts.EntryLines.{seen-told, IsLine, seen_line-is}
use Rattle.journal_text.proofs.OnTexts.ReadingLemmas.{Tells, entry_lines, EachFits, tail_of, tail-no-entry, entries-same, entries-front, entries-shared, front-longest, shared-line, shared-none, shared-nothing, shared-front, shared-no_front}

-- ---- looks

abbrev seen_lines : Plan → List Seen → List ℕ
seen_lines plan seens = flat_map (seen_line plan) seens

-- each look may come after those before it
abbrev SeensFit : Plan → ℕ → List Seen → Type 0
SeensFit plan low [] = Unit {0}
SeensFit plan low (s ∷ seens) = MayCome plan low s × SeensFit plan s.watch seens

fit-from : (plan : Plan) (low : ℕ) (seens : List Seen) → InOrderFrom low seens
    → AllByRecursion (λ s. s.watch < length plan.watches) seens → SeensFit plan low seens
fit-from plan low [] order watches = tt
fit-from plan low (s ∷ seens) order watches = (
  (order.0, record { watch = watches.0; ends = order.1; value = order.2 }),
  fit-from plan s.watch seens order.3 watches.1,
)

seens-fit : (plan : Plan) (seens : List Seen) → AreInOrder seens → AreOfPlan plan seens → SeensFit plan 0 seens
seens-fit plan seens order watches =
    fit-from plan 0 seens order (recursion_from_All (λ (s : Seen). s.watch < length plan.watches) seens watches)

same-seen : (plan : Plan) (s m : Seen) (x y : List ℕ) → Tells plan → IsOfPlan plan s → IsOfPlan plan m
    → seen_line plan s ++ x ≡ seen_line plan m ++ y → s ≡ m
same-seen plan s m x y t fs fm same = seen-told plan s m x y t.named fs fm same

seens-same : (plan : Plan) (low : ℕ) (ss ms : List Seen) (r : List ℕ) → Tells plan → SeensFit plan low ss
    → SeensFit plan low ms → BeginsNoSeen plan (last_watch low ss) r
    → seen_lines plan ss ++ r ≡ seen_lines plan ms → (ss ≡ ms) × (r ≡ [])
seens-same plan low [] [] r t fs fm nr same = (refl, same)
seens-same plan low [] (m ∷ ms) r t fs fm nr same = absurd (nr m (seen_lines plan ms) fm.0 same)
seens-same plan low (s ∷ ss) [] r t fs fm nr same = cc
seens-same plan low (s ∷ ss) (m ∷ ms) r t fs fm nr same =
    let cut : seen_line plan s ++ (seen_lines plan ss ++ r) ≡ seen_line plan m ++ seen_lines plan ms =
    sym (append_assoc (seen_line plan s) (seen_lines plan ss) r) ∙ same in
    let one : s ≡ m = same-seen plan s m (seen_lines plan ss ++ r) (seen_lines plan ms) t fs.0.1 fm.0.1 cut in
    let rest : seen_lines plan ss ++ r ≡ seen_lines plan ms =
    append_cancel_left (seen_line plan s) (seen_lines plan ss ++ r) (seen_lines plan ms)
    (cut ∙ ap (λ k. seen_line plan k ++ seen_lines plan ms) (sym one)) in
    let later = seens-same plan s.watch ss ms r t fs.1 (subst (λ k. SeensFit plan k.watch ms) (sym one) fm.1) nr rest in
    (ap (λ k. k ∷ ss) one ∙ ap (λ ks. m ∷ ks) later.0, later.1)

seens-front : (plan : Plan) (low : ℕ) (ss : List Seen) (r : List ℕ) → Tells plan → SeensFit plan low ss
    → lines_shared (seen_lines plan ss ++ r) (seen_lines plan ss) ≡ length ss
seens-front plan low [] r t f = shared-nothing r
seens-front plan low (s ∷ ss) r t f =
    let one = shared-line (seen_line plan s) (seen_lines plan ss ++ r) (seen_lines plan ss) (seen_line-is plan s t.named f.0.1) in
    let cut = ap (λ z. lines_shared z (seen_lines plan (s ∷ ss))) (append_assoc (seen_line plan s) (seen_lines plan ss) r) in
    omega (arith, cut, one, seens-front plan s.watch ss r t f.1)

seens-shared : (plan : Plan) (low : ℕ) (ss ms : List Seen) (r : List ℕ) → Tells plan → SeensFit plan low ss
    → SeensFit plan low ms → BeginsNoSeen plan (last_watch low ss) r
    → lines_shared (seen_lines plan ss ++ r) (seen_lines plan ms) ≤ length ss
seens-shared plan low ss [] r t fs fm nr = omega (arith, shared-nothing (seen_lines plan ss ++ r))
seens-shared plan low [] (m ∷ ms) r t fs fm nr =
    omega (arith, shared-none (seen_line plan m) r (seen_lines plan ms) (seen_line-is plan m t.named fm.0.1) (λ z e. nr m z fm.0 e))
seens-shared plan low (s ∷ ss) (m ∷ ms) r t fs fm nr =
    by (cases_Bool (bytes_eq (seen_line plan s) (seen_line plan m)))
    (λ one. seens-shared plan s.watch ss ms r t fs.1 (subst (λ k. SeensFit plan k.watch ms) (sym one) fm.1) nr)
  where
    rest : List ℕ
    rest = seen_lines plan ss ++ r

    cut : lines_shared (seen_lines plan (s ∷ ss) ++ r) (seen_lines plan (m ∷ ms))
        ≡ lines_shared (seen_line plan s ++ rest) (seen_line plan m ++ seen_lines plan ms)
    cut = ap (λ z. lines_shared z (seen_lines plan (m ∷ ms))) (append_assoc (seen_line plan s) (seen_lines plan ss) r)

    by : (bytes_eq (seen_line plan s) (seen_line plan m) ≡ true) ⊎ (bytes_eq (seen_line plan s) (seen_line plan m) ≡ false)
        → (s ≡ m → lines_shared rest (seen_lines plan ms) ≤ length ss)
        → lines_shared (seen_lines plan (s ∷ ss) ++ r) (seen_lines plan (m ∷ ms)) ≤ suc (length ss)
    by (inl like) later =
        let lines = (bytes_eq-Decides (seen_line plan s) (seen_line plan m)).0 like in
        let same = same-seen plan s m [] [] t fs.0.1 fm.0.1 (ap (λ l. l ++ []) lines) in
        let one = shared-line (seen_line plan s) rest (seen_lines plan ms) (seen_line-is plan s t.named fs.0.1) in
        let turn = ap (λ l. lines_shared (seen_line plan s ++ rest) (l ++ seen_lines plan ms)) lines in
        omega (arith, cut, one, turn, later same)
    by (inr unlike) later =
        let none = shared-none (seen_line plan m) (seen_line plan s ++ rest) (seen_lines plan ms) (seen_line-is plan m t.named fm.0.1)
        (λ z q. false≢true (sym unlike
        ∙ (bytes_eq-Decides (seen_line plan s) (seen_line plan m)).1
        (ap (seen_line plan) (same-seen plan s m rest z t fs.0.1 fm.0.1 q)))) in
        omega (arith, cut, none)

-- ---- whole texts

first-is : IsLine first_line
first-is = record { body = codes "journal"; unbroken = refl; same = refl }

text-split : (plan : Plan) (es : List Entry) (ss : List Seen)
    → text_of plan es ss ≡ first_line ++ (entry_lines plan es ++ tail_of plan es ss)
text-split plan es ss =
    append_assoc (first_line ++ entry_lines plan es) (closing_lines plan (reverse es)) (seen_lines plan ss)
    ∙ append_assoc first_line (entry_lines plan es) (tail_of plan es ss)

each : (plan : Plan) (es : List Entry) → AllWellFormed plan es → EachFits plan es
each plan es f = recursion_from_All (IsWellFormed plan) es f

pub texts-differ : (plan : Plan) → Tells plan → TextsDiffer plan
texts-differ plan t limit es js ss ms h k same =
    let cut : first_line ++ (entry_lines plan es ++ tail_of plan es ss) ≡ first_line
    ++ (entry_lines plan js ++ tail_of plan js ms) = sym (text-split plan es ss) ∙ same ∙ text-split plan js ms in
    let rest = append_cancel_left first_line (entry_lines plan es ++ tail_of plan es ss) (entry_lines plan js ++ tail_of plan js ms) cut in
    let entries =
    entries-same plan es js (tail_of plan es ss) (tail_of plan js ms) t (each plan es h.entries)
    (each plan js k.entries) (tail-no-entry plan es ss)
    (tail-no-entry plan js ms) rest in
    let tails : tail_of plan es ss ≡ tail_of plan es ms = entries.1 ∙ ap (λ ks. tail_of plan ks ms) (sym entries.0) in
    let looks = append_cancel_left (closing_lines plan (reverse es)) (seen_lines plan ss) (seen_lines plan ms) tails in
    let seens =
    seens-same plan 0 ss ms [] t (seens-fit plan ss h.order h.watches) (seens-fit plan ms k.order k.watches)
    (λ s rest f e. cc) (append-nil (seen_lines plan ss) ∙ looks) in
    (entries.0, seens.0)

-- ---- the first bad line

-- the bytes begin with the first line and these entries, and with no entry more
pub record SoFar (plan : Plan) (limit : ℕ) (bytes : List ℕ) (es : List Entry) (r : List ℕ) : Type 0 where
  pub fit : AllWellFormed plan es
  pub few : length es ≤ limit
  pub front : bytes ≡ first_line ++ (entry_lines plan es ++ r)
  pub all : BeginsNoEntry plan r

first-bad : (plan : Plan) (limit : ℕ) (bytes : List ℕ) (es : List Entry) (r : List ℕ) (ss : List Seen) (number : ℕ)
    → Tells plan → SoFar plan limit bytes es r → HasText plan limit es ss
    → ((ms : List Seen) → AreInOrder ms → AreOfPlan plan ms → lines_shared r (tail_of plan es ms) ≤ lines_shared r (tail_of plan es ss))
    → ((ms : List Seen) → AreInOrder ms → AreOfPlan plan ms → r ≡ tail_of plan es ms → ⊥)
    → number ≡ suc (lines_shared bytes (text_of plan es ss)) → IsFirstBad plan limit bytes number
first-bad plan limit bytes es r ss number t far fit best other is = record {
  none = λ js ms h. no_text js ms h;
  few = λ h. no_more h;
  journal = es;
  seens = ss;
  fit = fit;
  before = sym is;
  most =
      λ js ms h. within js ms h
      (entries-shared plan es js r (tail_of plan js ms) t (each plan es far.fit) (each plan js h.entries) far.all
      (tail-no-entry plan js ms));
}
  where
    shared : (js : List Entry) (ms : List Seen)
        → lines_shared bytes (text_of plan js ms)
        ≡ suc (lines_shared (entry_lines plan es ++ r) (entry_lines plan js ++ tail_of plan js ms))
    shared js ms =
        ap (lines_shared bytes) (text-split plan js ms)
        ∙ ap (λ b. lines_shared b (first_line ++ (entry_lines plan js ++ tail_of plan js ms))) far.front
        ∙ shared-line first_line (entry_lines plan es ++ r) (entry_lines plan js ++ tail_of plan js ms) first-is

    own : (ms : List Seen) → lines_shared bytes (text_of plan es ms) ≡ suc (length es + lines_shared r (tail_of plan es ms))
    own ms = shared es ms ∙ ap suc (entries-front plan es r (tail_of plan es ms) t (each plan es far.fit))

    within : (js : List Entry) (ms : List Seen) → HasText plan limit js ms
        → (es ≡ js) ⊎ (lines_shared (entry_lines plan es ++ r) (entry_lines plan js ++ tail_of plan js ms) ≤ length es)
        → lines_shared bytes (text_of plan js ms) < number
    within js ms h (inl same) =
        let moved = ap (λ ks. lines_shared bytes (text_of plan ks ms)) (sym same) in
        omega (arith, moved, own ms, own ss, best ms h.order h.watches, is)
    within js ms h (inr less) = omega (arith, shared js ms, own ss, less, is)

    no_text : (js : List Entry) (ms : List Seen) → IsText plan limit bytes js ms → ⊥
    no_text js ms h =
        let cut : first_line ++ (entry_lines plan es ++ r) ≡ first_line ++ (entry_lines plan js ++ tail_of plan js ms) =
        sym far.front ∙ h.same ∙ text-split plan js ms in
        let rest = append_cancel_left first_line (entry_lines plan es ++ r) (entry_lines plan js ++ tail_of plan js ms) cut in
        let two =
        entries-same plan es js r (tail_of plan js ms) t (each plan es far.fit) (each plan js h.fit.entries) far.all
        (tail-no-entry plan js ms) rest in
        other ms h.fit.order h.fit.watches (two.1 ∙ ap (λ ks. tail_of plan ks ms) (sym two.0))

    no_more : HasTooMany plan limit bytes → ⊥
    no_more h =
        let cut : first_line ++ (entry_lines plan es ++ r) ≡ first_line ++ (entry_lines plan h.journal ++ h.rest) =
        sym far.front ∙ h.begins ∙ append_assoc first_line (entry_lines plan h.journal) h.rest in
        let rest = append_cancel_left first_line (entry_lines plan es ++ r) (entry_lines plan h.journal ++ h.rest) cut in
        let less = front-longest plan es h.journal r h.rest t (each plan es far.fit) (each plan h.journal h.entries) far.all rest in
        omega (arith, less, far.few, h.many)

-- bytes without the first line
pub bad-first : (plan : Plan) (limit : ℕ) (bytes : List ℕ) (e : TextError)
    → ((z : List ℕ) → bytes ≡ first_line ++ z → ⊥) → RefusesAfter bytes (text_of plan [] []) e
    → Refuses plan limit bytes e
bad-first plan limit bytes (error.TooMany line) n h = absurd h
bad-first plan limit bytes error.OutOfMemory n h = tt
bad-first plan limit bytes (error.BadLine line) n h = record {
  none = λ js ms k. n (entry_lines plan js ++ tail_of plan js ms) (k.same ∙ text-split plan js ms);
  few = λ k. n (entry_lines plan k.journal ++ k.rest) (k.begins ∙ append_assoc first_line (entry_lines plan k.journal) k.rest);
  journal = [];
  seens = [];
  fit = nothing;
  before = sym h;
  most = λ js ms k. omega (arith, nothing_shared js ms, h);
}
  where
    nothing : HasText plan limit [] []
    nothing = record { entries = λ k d l. absurd (omega arith); few = omega arith; order = tt; watches = λ k d l. absurd (omega arith) }

    nothing_shared : (js : List Entry) (ms : List Seen) → lines_shared bytes (text_of plan js ms) ≡ 0
    nothing_shared js ms =
        ap (lines_shared bytes) (text-split plan js ms)
        ∙ shared-none first_line bytes (entry_lines plan js ++ tail_of plan js ms) first-is n

so-far : (plan : Plan) (limit : ℕ) (bytes text : List ℕ) (es : List Entry) (r : List ℕ) → bytes ≡ first_line ++ text
    → EntriesRead plan limit text es r → SoFar plan limit bytes es r
so-far plan limit bytes text es r begins h =
    record { fit = h.fit; few = h.few; front = begins ∙ ap (λ z. first_line ++ z) h.front; all = h.all }

-- bytes whose entries aren't followed by the lines that follow from them
pub bad-closing : (plan : Plan) (limit : ℕ) (bytes text : List ℕ) (es : List Entry) (r : List ℕ) (e : TextError)
    → Tells plan → bytes ≡ first_line ++ text → EntriesRead plan limit text es r
    → ((z : List ℕ) → r ≡ closing_lines plan (reverse es) ++ z → ⊥) → RefusesAfter bytes (text_of plan es []) e → Refuses plan limit bytes e
bad-closing plan limit bytes text es r (error.TooMany line) t begins h n k = absurd k
bad-closing plan limit bytes text es r error.OutOfMemory t begins h n k = tt
bad-closing plan limit bytes text es r (error.BadLine line) t begins h n k =
    first-bad plan limit bytes es r [] line t (so-far plan limit bytes text es r begins h)
    (record { entries = h.fit; few = h.few; order = tt; watches = λ i d l. absurd (omega arith) })
    (λ ms order watches. omega (arith, shared-no_front r (closing_lines plan (reverse es)) (seen_lines plan ms) [] n))
    (λ ms order watches same. n (seen_lines plan ms) same)
    k

-- bytes that don't end after the looks
pub bad-rest : (plan : Plan) (limit : ℕ) (bytes text : List ℕ) (es : List Entry) (r looks : List ℕ) (ss : List Seen)
    (rest : List ℕ) (e : TextError) → Tells plan → bytes ≡ first_line ++ text
    → EntriesRead plan limit text es r → r ≡ closing_lines plan (reverse es) ++ looks → SeensRead plan looks ss rest → (rest ≡ [] → ⊥)
    → RefusesAfter bytes (text_of plan es ss) e → Refuses plan limit bytes e
bad-rest plan limit bytes text es r looks ss rest (error.TooMany line) t begins h q s n k = absurd k
bad-rest plan limit bytes text es r looks ss rest error.OutOfMemory t begins h q s n k = tt
bad-rest plan limit bytes text es r looks ss rest (error.BadLine line) t begins h q s n k =
    first-bad plan limit bytes es r ss line t (so-far plan limit bytes text es r begins h)
    (record { entries = h.fit; few = h.few; order = s.order; watches = s.fit })
    (λ ms order watches. omega (
      arith,
      shared ms,
      shared ss,
      most ms order watches,
      seens-front plan 0 ss rest t (seens-fit plan ss s.order s.fit),
    ))
    (λ ms order watches same. n (ends ms order watches same))
    k
  where
    closing : List ℕ
    closing = closing_lines plan (reverse es)

    whole : r ≡ closing ++ (seen_lines plan ss ++ rest)
    whole = q ∙ ap (λ z. closing ++ z) s.front

    shared : (ms : List Seen)
        → lines_shared r (tail_of plan es ms)
        ≡ lines_shared closing closing + lines_shared (seen_lines plan ss ++ rest) (seen_lines plan ms)
    shared ms = ap (λ z. lines_shared z (tail_of plan es ms)) whole ∙ shared-front closing (seen_lines plan ss ++ rest) (seen_lines plan ms)

    most : (ms : List Seen) → AreInOrder ms → AreOfPlan plan ms → lines_shared (seen_lines plan ss ++ rest) (seen_lines plan ms) ≤ length ss
    most ms order watches = seens-shared plan 0 ss ms rest t (seens-fit plan ss s.order s.fit) (seens-fit plan ms order watches) s.all

    ends : (ms : List Seen) → AreInOrder ms → AreOfPlan plan ms → r ≡ tail_of plan es ms → rest ≡ []
    ends ms order watches same =
        let cut = append_cancel_left closing (seen_lines plan ss ++ rest) (seen_lines plan ms) (sym whole ∙ same) in
        (seens-same plan 0 ss ms rest t (seens-fit plan ss s.order s.fit) (seens-fit plan ms order watches) s.all cut).1

-- bytes that are a text
pub good : (plan : Plan) (limit : ℕ) (bytes text : List ℕ) (es : List Entry) (r looks : List ℕ) (ss : List Seen)
    (rest : List ℕ) → bytes ≡ first_line ++ text
    → EntriesRead plan limit text es r → r ≡ closing_lines plan (reverse es) ++ looks → SeensRead plan looks ss rest
    → rest ≡ [] → IsText plan limit bytes es ss
good plan limit bytes text es r looks ss rest begins h q s end = record {
  fit = record { entries = h.fit; few = h.few; order = s.order; watches = s.fit };
  same =
      begins ∙ ap (λ z. first_line ++ z) (h.front ∙ ap (λ z. entry_lines plan es ++ z) (q ∙ ap (λ z. closing_lines plan (reverse es) ++ z)
      (s.front ∙ ap (λ z. seen_lines plan ss ++ z) end ∙ append-nil (seen_lines plan ss)))) ∙ sym (text-split plan es ss);
}

-- what was written is read back
pub reads-back : (plan : Plan) (limit : ℕ) (bytes : List ℕ) (result : Result (Entries × Looks) TextError) → Tells plan
    → Reads plan limit bytes result → ReadsBack plan limit bytes result
reads-back plan limit bytes (Ok r) t h js ms k = texts-differ plan t limit r.0.entries js r.1.seens ms h.fit k.fit (sym h.same ∙ k.same)
reads-back plan limit bytes (Err (error.TooMany line)) t h js ms k =
    let cut : first_line ++ (entry_lines plan js ++ tail_of plan js ms) ≡ first_line
    ++ (entry_lines plan h.1.journal ++ h.1.rest) =
    sym (text-split plan js ms) ∙ sym k.same ∙ h.1.begins
    ∙ append_assoc first_line (entry_lines plan h.1.journal) h.1.rest in
    let rest = append_cancel_left first_line (entry_lines plan js ++ tail_of plan js ms) (entry_lines plan h.1.journal ++ h.1.rest) cut in
    let less =
    front-longest plan js h.1.journal (tail_of plan js ms) h.1.rest t (each plan js k.fit.entries)
    (each plan h.1.journal h.1.entries) (tail-no-entry plan js ms) rest in
    absurd (omega (arith, less, k.fit.few, h.1.many))
reads-back plan limit bytes (Err (error.BadLine line)) t h js ms k = absurd (h.none js ms k)
reads-back plan limit bytes (Err error.OutOfMemory) t h js ms k = refl

-- ---- one line more

pub front-more : {A : Type 0} (line_of : A → List ℕ) (xs : List A) (x : A) (text rest after : List ℕ)
    → text ≡ flat_map line_of xs ++ rest → rest ≡ line_of x ++ after → text ≡ flat_map line_of (xs ++ x ∷ []) ++ after
front-more line_of xs x text rest after h k =
    let more : flat_map line_of (xs ++ x ∷ []) ≡ flat_map line_of xs ++ line_of x =
    flat_map-append line_of xs (x ∷ []) ∙ ap (λ z. flat_map line_of xs ++ z) (append-nil (line_of x)) in
    h ∙ ap (λ z. flat_map line_of xs ++ z) k ∙ sym (append_assoc (flat_map line_of xs) (line_of x) after) ∙ ap (λ z. z ++ after) (sym more)

pub last_watch-push : (low : ℕ) (seens : List Seen) (s : Seen) → last_watch low (seens ++ s ∷ []) ≡ s.watch
last_watch-push low [] s = refl
last_watch-push low (m ∷ seens) s = last_watch-push m.watch seens s

pub nothing-left : (text : List ℕ) → length text ≡ 0 → text ≡ []
nothing-left [] h = refl
nothing-left (b ∷ text) h = absurd (omega (arith, h))
