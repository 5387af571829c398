-- What an audit is to find by a plan is one finding alone.
use Rattle.std.proofs.Common.{◌≡◌, ◌⊎◌, ℕ, zero, suc, ◌+◌, ◌<◌, ◌≤◌, List, [], ◌∷◌, length, reverse, take, Some, None, Err, inl, inr, refl, sym, ap, ◌∙◌, subst, arith}
use Rattle.std.specs.List.{slice_get}
use Rattle.std.proofs.lemmas.Bool.{cases_lt}
use Rattle.std.proofs.lemmas.List.{take-take, take_all}
use Rattle.std.proofs.lemmas.Option.{get_or_from_slice_get}
use Rattle.caa_base.specs.declared.written.entry.Entry.{Entry}
use Rattle.caa_base.specs.Written.Limits.{most_audited}
use Rattle.place_plan.specs.Plans.PlanValue.{Plan}
use Rattle.place_plan.specs.RulesOfJournals.Rules.{MayFollow}
use Rattle.place_plan.specs.RulesOfJournals.Journals.{LegalPast, IsLegal, IsComplete}
use Rattle.journal_replay.specs.Audited.{IsFirstIllegal, IsUnfinished}
use Rattle.place_plan.proofs.OnJournals.LatestValues.{reverse_more}
use Rattle.journal_replay.proofs.Prefixes.{legal_front}
use Rattle.journal_text.specs.declared.looks.seens.Seen.{Seen}
use Rattle.journal_text.specs.declared.texts.text_reader.TextError.TheVariants as error
use Rattle.journal_text.specs.Texts.TextOfJournal.{IsText, HasTooMany, IsFirstBad}
use Rattle.journal_text.proofs.OnTexts.ReadingLemmas.{Tells}
use Rattle.journal_text.proofs.OnTexts.BadLines.{texts-differ, reads-back}
use Rattle.caa_commands.specs.declared.fault.Refusal.{Refusal}
use Rattle.caa_commands.specs.declared.finding.Finding.{Finding}
use Rattle.caa_commands.specs.declared.finding.Finding.TheVariants as finding
use Rattle.action_script.specs.Words.JournalStarts.{script_lines, journal_part}
use Rattle.caa_commands.specs.Judging.{wrong_look, IsLawful, IsUnlawful, IsWronglySeen, IsIllegalAt, HasTooManyEntries}
use Rattle.caa_commands.specs.Served.{IsToFind, legal_journal, illegal_line, too_many_entries}

-- ---- the first entry that isn't legal

module _ (plan : Plan) (journal : List Entry) where
  -- where the entries before k are legal, each of them may follow those before it
  may_stand : (i k : ℕ) → i < k → k ≤ length journal → IsLegal plan (take k journal) → (e : Entry)
      → slice_get journal i ≡ Some e → MayFollow plan (reverse (take i journal)) e
  may_stand i k less within legal e there =
      let front : LegalPast plan (reverse (take (i + 1) (take k journal))) = legal_front plan (take k journal) (i + 1) legal in
      let cut : reverse (take (i + 1) (take k journal)) ≡ e ∷ reverse (take i journal) =
      ap reverse (take-take (i + 1) k journal (omega arith)) ∙ reverse_more journal i e (omega arith)
      ∙ ap (λ x. x ∷ reverse (take i journal)) (get_or_from_slice_get journal i e e there) in
      (subst (LegalPast plan) cut front).1

  all : IsLegal plan journal → IsLegal plan (take (length journal) journal)
  all legal = subst (IsLegal plan) (sym (take_all (length journal) journal (omega arith))) legal

  there : (i : ℕ) → i < length journal → (e : Entry) × (slice_get journal i ≡ Some e)
  there i within = by journal i within
    where
      by : (js : List Entry) (i : ℕ) → i < length js → (e : Entry) × (slice_get js i ≡ Some e)
      by [] i h = absurd (omega (arith, h))
      by (e ∷ js) zero h = (e, refl)
      by (e ∷ js) (suc i) h = by js i (omega (arith, h))

  not_before : (i k : ℕ) → IsFirstIllegal plan journal i → i < k → k ≤ length journal → IsLegal plan (take k journal) → ⊥
  not_before i k first less within legal = let at =
      there i first.within in first.wrong at.0 at.1 (may_stand i k less within legal at.0 at.1)

  -- a legal journal has none
  not_legal : (i : ℕ) → IsFirstIllegal plan journal i → IsLegal plan journal → ⊥
  not_legal i first legal = not_before i (length journal) first first.within (omega arith) (all legal)

  abbrev IsWrongAt : ℕ → Type 0
  IsWrongAt i = IsFirstIllegal plan journal i ⊎ IsUnfinished plan journal i

  pub not_lawful : (i : ℕ) → IsWrongAt i → IsLegal plan journal → IsComplete plan journal → ⊥
  not_lawful i (inl first) legal complete = not_legal i first legal
  not_lawful i (inr open_end) legal complete = open_end.unfinished complete

  pub one_wrong : (i k : ℕ) → IsWrongAt i → IsWrongAt k → i ≡ k
  one_wrong i k (inl a) (inl b) = by (cases_lt i k) (cases_lt k i)
    where
      by : (i < k) ⊎ (k ≤ i) → (k < i) ⊎ (i ≤ k) → i ≡ k
      by (inl less) q = absurd (not_before i k a less (omega (arith, b.within)) b.legal)
      by (inr p) (inl more) = absurd (not_before k i b more (omega (arith, a.within)) a.legal)
      by (inr p) (inr q) = omega (arith, p, q)
  one_wrong i k (inl a) (inr b) = absurd (not_legal i a b.legal)
  one_wrong i k (inr a) (inl b) = absurd (not_legal k b a.legal)
  one_wrong i k (inr a) (inr b) = omega (arith, a.past_all, b.past_all)

-- ---- one text

module _ (plan : Plan) (tells : Tells plan) (text : List ℕ) where
  one_journal : (js es : List Entry) (ss ms : List Seen) → IsText plan most_audited text js ss
      → IsText plan most_audited text es ms → (js ≡ es) × (ss ≡ ms)
  one_journal js es ss ms h k = texts-differ plan tells most_audited js es ss ms h.fit k.fit (sym h.same ∙ k.same)

  not_many : (js : List Entry) (ss : List Seen) → IsText plan most_audited text js ss → HasTooMany plan most_audited text → ⊥
  not_many js ss h many =
      let line = most_audited + 2 in
      let lost : error.TooMany line ≡ error.OutOfMemory =
      reads-back plan most_audited text (Err (error.TooMany line)) tells (refl, many) js ss h in
      absurd cc

  -- a lawful text has no line at fault
  lawful_alone : (journal : List Entry) (n : ℕ) → IsLawful plan text journal → IsIllegalAt plan text n → ⊥
  lawful_alone journal n h (inl bad) = bad.none journal h.seens h.spelled
  lawful_alone journal n h (inr (inl u)) =
      let same = one_journal journal u.journal h.seens u.seens h.spelled u.spelled in
      not_lawful plan u.journal u.index u.wrong (subst (IsLegal plan) same.0 h.legal) (subst (IsComplete plan) same.0 h.complete)
  lawful_alone journal n h (inr (inr w)) =
      let same = one_journal journal w.journal h.seens w.seens h.spelled w.spelled in
      let both : None ≡ Some w.look = sym h.right ∙ (λ j. wrong_look plan (same.0 j) (same.1 j)) ∙ w.wrong in
      absurd cc

  -- a text has one line at fault
  one_bad : (n m : ℕ) → IsFirstBad plan most_audited text n → IsFirstBad plan most_audited text m → n ≡ m
  one_bad n m a b = omega (arith, a.before, b.before, a.most b.journal b.seens b.fit, b.most a.journal a.seens a.fit)

  one_unlawful : (n m : ℕ) → IsUnlawful plan text n → IsUnlawful plan text m → n ≡ m
  one_unlawful n m u v =
      let same = one_journal u.journal v.journal u.seens v.seens u.spelled v.spelled in
      let wrong = subst (λ js. IsFirstIllegal plan js u.index ⊎ IsUnfinished plan js u.index) same.0 u.wrong in
      omega (arith, u.line, v.line, one_wrong plan v.journal u.index v.index wrong v.wrong)

  not_both : (n m : ℕ) → IsUnlawful plan text n → IsWronglySeen plan text m → ⊥
  not_both n m u w =
      let same = one_journal w.journal u.journal w.seens u.seens w.spelled u.spelled in
      not_lawful plan u.journal u.index u.wrong (subst (IsLegal plan) same.0 w.legal) (subst (IsComplete plan) same.0 w.complete)

  one_look : (n m : ℕ) → IsWronglySeen plan text n → IsWronglySeen plan text m → n ≡ m
  one_look n m v w =
      let same = one_journal v.journal w.journal v.seens w.seens v.spelled w.spelled in
      let both : Some v.look ≡ Some w.look = sym v.wrong ∙ (λ j. wrong_look plan (same.0 j) (same.1 j)) ∙ w.wrong in
      let look : v.look ≡ w.look = cc in
      omega (arith, v.line, w.line, look, ap length same.0)

  one_line : (n m : ℕ) → IsIllegalAt plan text n → IsIllegalAt plan text m → n ≡ m
  one_line n m (inl a) (inl b) = one_bad n m a b
  one_line n m (inl a) (inr (inl u)) = absurd (a.none u.journal u.seens u.spelled)
  one_line n m (inl a) (inr (inr w)) = absurd (a.none w.journal w.seens w.spelled)
  one_line n m (inr (inl u)) (inl b) = absurd (b.none u.journal u.seens u.spelled)
  one_line n m (inr (inl u)) (inr (inl v)) = one_unlawful n m u v
  one_line n m (inr (inl u)) (inr (inr w)) = absurd (not_both n m u w)
  one_line n m (inr (inr w)) (inl b) = absurd (b.none w.journal w.seens w.spelled)
  one_line n m (inr (inr w)) (inr (inl u)) = absurd (not_both m n u w)
  one_line n m (inr (inr v)) (inr (inr w)) = one_look n m v w

  -- a text of too many entries has no line at fault
  many_alone : (n : ℕ) → HasTooMany plan most_audited text → IsIllegalAt plan text n → ⊥
  many_alone n many (inl bad) = bad.few many
  many_alone n many (inr (inl u)) = not_many u.journal u.seens u.spelled many
  many_alone n many (inr (inr w)) = not_many w.journal w.seens w.spelled many

-- ---- one input

module _ (plan : Plan) (tells : Tells plan) (bytes : List ℕ) where
  abbrev text : List ℕ
  text = journal_part bytes

  one_refusal : (r q : Refusal) → HasTooManyEntries plan bytes r → HasTooManyEntries plan bytes q → r ≡ q
  one_refusal r q a b = (λ j. record { line = (a.line ∙ sym b.line) j; fault = (a.fault ∙ sym b.fault) j })

  pub found_alone : (found other : Finding) → IsToFind plan bytes found → IsToFind plan bytes other → found ≡ other
  found_alone found other (legal_journal a) (legal_journal b) =
      let same = one_journal plan tells text a.journal b.journal a.lawful.seens b.lawful.seens a.lawful.spelled b.lawful.spelled in
      ap finding.Legal (a.number ∙ ap length same.0 ∙ sym b.number)
  found_alone found other (legal_journal a) (illegal_line b) = absurd (lawful_alone plan tells text a.journal b.number a.lawful b.cause)
  found_alone found other (legal_journal a) (too_many_entries b) =
      absurd (not_many plan tells text a.journal a.lawful.seens a.lawful.spelled b.many)
  found_alone found other (illegal_line a) (legal_journal b) = absurd (lawful_alone plan tells text b.journal a.number b.lawful a.cause)
  found_alone found other (illegal_line a) (illegal_line b) =
      let same : a.number ≡ b.number = one_line plan tells text a.number b.number a.cause b.cause in
      ap finding.Illegal (a.counted ∙ ap (λ n. script_lines bytes + n) same ∙ sym b.counted)
  found_alone found other (illegal_line a) (too_many_entries b) = absurd (many_alone plan tells text a.number b.many a.cause)
  found_alone found other (too_many_entries a) (legal_journal b) =
      absurd (not_many plan tells text b.journal b.lawful.seens b.lawful.spelled a.many)
  found_alone found other (too_many_entries a) (illegal_line b) = absurd (many_alone plan tells text b.number a.many b.cause)
  found_alone found other (too_many_entries {refusal = r} a) (too_many_entries {refusal = q} b) = ap finding.Refused (one_refusal r q a b)
