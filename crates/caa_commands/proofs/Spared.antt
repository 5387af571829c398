-- Where nothing outside fails, no fault is told, and no play has a refused put.
use Rattle.std.proofs.Common.{◌≡◌, ◌∙◌, ◌⊎◌, ℕ, zero, suc, ◌+◌, ◌-◌, ◌^◌, ◌<◌, ◌==◌, Bool, true, false, cond, ◌&&◌, ◌||◌, List, [], ◌∷◌, filter, length, reverse, Some, refl, sym, ap, subst, inl, inr, arith, MatchBool}
use Rattle.std.specs.List.{list_any}
use Rattle.std.proofs.lemmas.Bool.{and_parts, and_from, or_cases, or_right, false≢true, eqb-true}
use Rattle.std.proofs.lemmas.List.{reverse-append}
use Rattle.std.proofs.lemmas.List.Folds.{list_any-append}
use Rattle.caa_base.specs.Outside.Counts.{Rose}
use Rattle.caa_base.specs.declared.written.entry.Entry.{Entry}
use Rattle.caa_base.specs.declared.written.entry.Kind.{Kind}
use Rattle.caa_base.specs.declared.written.entry.Kind.TheVariants as kind
use Rattle.caa_base.specs.declared.outside.reading.ReadError.{ReadError}
use Rattle.caa_base.specs.declared.outside.reading.ReadError.TheVariants as error
use Rattle.caa_base.proofs.Counting.{counted_up-rose}
use Rattle.place_plan.specs.Plans.PlanValue.{Plan}
use Rattle.place_plan.specs.RulesOfJournals.Entries.{is_of, is_in}
use Rattle.place_plan.specs.RulesOfJournals.Whereabouts.{is_undoing}
use Rattle.place_plan.specs.RulesOfJournals.Objects.{has_failed}
use Rattle.place_plan.specs.RulesOfJournals.Roles.{signals}
use Rattle.place_plan.specs.RulesOfJournals.Rules.{Row, MayEnd, EndsUndone, EndsAgreed}
use Rattle.place_plan.specs.RulesOfJournals.Journals.{LegalPast, IsLegal, is_fault, faults_in}
use Rattle.place_plan.specs.Plans.Places.{roles_of}
use Rattle.place_plan.proofs.OnJournals.EntryKinds.{of_kind}
use Rattle.journal_laws.proofs.Effects.{any_implied}
use Rattle.journal_laws.proofs.Outcome.{undone_marks, agreed_mark}
use Rattle.caa_commands.specs.declared.command.Command.{Command}
use Rattle.caa_commands.specs.declared.command.Command.TheVariants as command
use Rattle.caa_commands.specs.declared.finding.Finding.{Finding}
use Rattle.caa_commands.specs.declared.finding.Finding.TheVariants as finding
use Rattle.caa_commands.specs.declared.status.Status.{Status}
use Rattle.caa_commands.specs.Findings.{status_of, tells_fault}
use Rattle.caa_commands.specs.FailedPlays.{is_failed_play, has_failed_play, IsPlayed}
use Rattle.caa_commands.specs.OutsideUse.{SinkUse, Left, Call}
use Rattle.caa_commands.specs.Calls.{CheckComesTo, Prints, EndsWith, DoesNotBegin, AuditComesTo, PlanComesTo, InputComesTo, IsNotServed, CellComesTo, IsNotWorked, HasStopped, unread_finding, CameTo, with_journal, Tells, Answers}
use Rattle.caa_commands.specs.Served.{NothingFailed, IsSpared}

-- ---- a play that failed has a refused restore

end_row : (plan : Plan) (past : List Entry) (k : Kind) (e : Entry) → Row k plan past (of_kind k e)
    → is_of kind.End (of_kind k e) ≡ true → MayEnd plan past (of_kind k e)
end_row plan past kind.End e h w = h
end_row plan past _ e h w = absurd (false≢true w)

refused_restore : (p : ℕ) (e : Entry) → is_in kind.Restore p e && (e.mark == 1) ≡ true → is_fault e ≡ true
refused_restore p e h =
    let parts = and_parts (is_in kind.Restore p e) (e.mark == 1) h in
    or_right (is_of kind.PutFault e) (is_of kind.Restore e && (e.mark == 1))
    (and_from (is_of kind.Restore e) (e.mark == 1) (and_parts (is_of kind.Restore e) (e.place == p) parts.0).0 parts.1)

end_refused : (plan : Plan) (past : List Entry) (e : Entry) → MayEnd plan past e → e.mark ≡ 4 → has_failed past e.place ≡ true
end_refused plan past e may failed = by_undo (is_undoing past e.place) refl may.how
  where
    by_undo : (b : Bool) → is_undoing past e.place ≡ b → MatchBool b (EndsUndone plan past e) (EndsAgreed plan past e)
        → has_failed past e.place ≡ true
    by_undo true is ends = elim (undone_marks past e.place e.mark ends.mark) [
      | inl (inl other) ↦ absurd (omega (arith, other, failed))
      | inl (inr other) ↦ absurd (omega (arith, other, failed))
      | inr refused ↦ refused.1
    ]
    by_undo false is ends =
        absurd (omega (arith, agreed_mark plan e (signals past e.place (roles_of plan e.place)) ends.outcome, failed))

failed_refused : (plan : Plan) (past : List Entry) → LegalPast plan past → list_any (is_failed_play plan) past ≡ true
    → list_any is_fault past ≡ true
failed_refused plan [] legal h = absurd (false≢true h)
failed_refused plan (e ∷ past) legal h = elim (or_cases (is_failed_play plan e) (list_any (is_failed_play plan) past) h) [
  | inl here ↦
      let parts = and_parts (is_of kind.End e) _ here in
      let may = end_row plan past e.kind e legal.1 parts.0 in
      let mark = eqb-true e.mark 4 (and_parts (e.mark == 4) _ parts.1).0 in
      or_right _ _
      (any_implied (λ f. is_in kind.Restore e.place f && (f.mark == 1)) is_fault past (refused_restore e.place)
      (end_refused plan past e may mark))
  | inr there ↦ or_right _ _ (failed_refused plan past legal.0 there)
]

any_reverse : (test : Entry → Bool) (es : List Entry) → list_any test (reverse es) ≡ list_any test es
any_reverse test [] = refl
any_reverse test (e ∷ es) =
    ap (list_any test) (reverse-append (e ∷ []) es) ∙ list_any-append test (reverse es) (e ∷ [])
    ∙ ap (λ b. b || list_any test (e ∷ [])) (any_reverse test es) ∙ turned (list_any test es) (test e)
  where
    turned : (a b : Bool) → a || (b || false) ≡ b || a
    turned true true = refl
    turned true false = refl
    turned false true = refl
    turned false false = refl

none_found : (test : Entry → Bool) (es : List Entry) → length (filter test es) ≡ 0 → list_any test es ≡ false
none_found test [] h = refl
none_found test (e ∷ es) h = by_test (test e) refl (none_found test es) h
  where
    by_test : (b : Bool) → test e ≡ b → (length (filter test es) ≡ 0 → list_any test es ≡ false)
        → length (cond b (e ∷ filter test es) (filter test es)) ≡ 0 → b || list_any test es ≡ false
    by_test true is ih h = absurd (omega (arith, h))
    by_test false is ih h = ih h

none_failed : (plan : Plan) (journal : List Entry) → IsLegal plan journal → faults_in journal ≡ 0 → has_failed_play plan journal ≡ false
none_failed plan journal legal none = by_test (has_failed_play plan journal) refl
  where
    by_test : (b : Bool) → has_failed_play plan journal ≡ b → b ≡ false
    by_test false is = refl
    by_test true is =
        let refused = failed_refused plan (reverse journal) legal (any_reverse (is_failed_play plan) journal ∙ is) in
        absurd (false≢true (sym (none_found is_fault journal none) ∙ sym (any_reverse is_fault journal) ∙ refused))

-- a count that did not rise, and tells the faults of a journal, says that there is none
not_counted : (before after faults : ℕ) → (Rose before after → ⊥) → (after < 2 ^ 64 - 1 → after ≡ before + faults) → faults ≡ 0
not_counted before after zero quiet counts = refl
not_counted before after (suc n) quiet counts = absurd (quiet (λ below. omega (arith, counts below)))

-- ---- what is found

-- what is found tells of no fault, and so does the journal
abbrev IsQuiet : Finding → List Entry → Type 0
IsQuiet found journal = (tells_fault (status_of found) ≡ false) × (faults_in journal ≡ 0)

empty_quiet : (journal : List Entry) → journal ≡ [] → faults_in journal ≡ 0
empty_quiet journal none = ap faults_in none

module _ {P : Type 0} (left : Left P) (laid : Rose left.plant.lay_faults_before left.plant.lay_faults_after → ⊥)
    (put : Rose left.plant.faults_before left.plant.faults_after → ⊥) where
  checked_quiet : (plan : Plan) (found : Finding) → CheckComesTo plan found left → IsQuiet found left.journal
  checked_quiet plan (finding.Checked counts) h = (refl, empty_quiet left.journal h.1.unplayed)
  checked_quiet plan _ h = elim h [ ]

  printed_quiet : (holds : List ℕ → Type 0) (found : Finding) → Prints holds found left → IsQuiet found left.journal
  printed_quiet holds (finding.Printed text) h = (refl, empty_quiet left.journal h.1.unplayed)
  printed_quiet holds finding.OutOfMemory h = (refl, empty_quiet left.journal h.unplayed)
  printed_quiet holds _ h = elim h [ ]

  begun_quiet : (plan : Plan) (found : Finding) → DoesNotBegin plan found left → IsQuiet found left.journal
  begun_quiet plan finding.PlantFault h = absurd (laid (counted_up-rose _ _ h.0))
  begun_quiet plan finding.OutOfMemory h = (refl, empty_quiet left.journal h.1.unplayed)
  begun_quiet plan _ h = elim h [ ]

  ended_quiet : (plan : Plan) (printed : List ℕ) (found : Finding) → IsPlayed plan left → EndsWith plan left.journal printed found
      → IsQuiet found left.journal
  ended_quiet plan printed (finding.Played failed text) played h =
      let none : faults_in left.journal ≡ 0 =
      not_counted left.plant.faults_before left.plant.faults_after (faults_in left.journal) put played.faults in
      let well : failed ≡ false = h.0 ∙ none_failed plan left.journal played.legal none in
      (subst (λ b. tells_fault (status_of (finding.Played b text)) ≡ false) (sym well) refl, none)
  ended_quiet plan printed finding.OutOfMemory played h =
      (refl, not_counted left.plant.faults_before left.plant.faults_after (faults_in left.journal) put played.faults)
  ended_quiet plan printed _ played h = elim h [ ]

  away_quiet : (c : Command) (bytes : List ℕ) (found : Finding) → IsNotServed c bytes found left → IsQuiet found left.journal
  away_quiet c bytes (finding.Refused refusal) h = (refl, empty_quiet left.journal h.1.unplayed)
  away_quiet c bytes finding.OutOfMemory h = (refl, empty_quiet left.journal h.unplayed)
  away_quiet c bytes _ h = elim h [ ]

  unworked_quiet : (found : Finding) → IsNotWorked found left → IsQuiet found left.journal
  unworked_quiet finding.OutOfMemory h = (refl, empty_quiet left.journal h.unplayed)
  unworked_quiet _ h = elim h [ ]

  cell_quiet : (plan : Plan) (cycles : ℕ) (found : Finding) → CellComesTo plan cycles found left → IsQuiet found left.journal
  cell_quiet plan cycles found (inl played) = ended_quiet plan _ found played.0.played played.1
  cell_quiet plan cycles found (inr unopened) = begun_quiet plan found unopened

  -- of the commands over a plan `audit` alone hands back a journal that was read
  plan_quiet : (c : Command) (plan : Plan) (bytes : List ℕ) (found : Finding) → PlanComesTo c plan bytes found left
      → (tells_fault (status_of found) ≡ false) × ((c ≡ command.Audit) ⊎ (faults_in left.journal ≡ 0))
  plan_quiet command.Check plan bytes found h = let q = checked_quiet plan found h in (q.0, inr q.1)
  plan_quiet (command.Sim seed) plan bytes found (inl played) =
      let q = ended_quiet plan _ found played.0.played played.1 in (q.0, inr q.1)
  plan_quiet (command.Sim seed) plan bytes found (inr unopened) = let q = begun_quiet plan found unopened in (q.0, inr q.1)
  plan_quiet command.Run plan bytes found (inl played) = let q = ended_quiet plan _ found played.played played.ends in (q.0, inr q.1)
  plan_quiet command.Run plan bytes found (inr unopened) = let q = begun_quiet plan found unopened in (q.0, inr q.1)
  plan_quiet (command.Pool workers) plan bytes found (inl played) =
      let q = ended_quiet plan _ found played.played played.ends in (q.0, inr q.1)
  plan_quiet (command.Pool workers) plan bytes found (inr unopened) = let q = begun_quiet plan found unopened in (q.0, inr q.1)
  plan_quiet (command.Messages seed) plan bytes found h = let q = printed_quiet _ found h in (q.0, inr q.1)
  plan_quiet (command.Graph most) plan bytes found h = elim h [ ]
  plan_quiet (command.Cell cycles) plan bytes found h = elim h [ ]
  plan_quiet command.Audit plan bytes found h = (audited found h, inl refl)
    where
      audited : (found : Finding) → AuditComesTo plan bytes found left → tells_fault (status_of found) ≡ false
      audited (finding.Legal entries) h = refl
      audited (finding.Illegal line) h = refl
      audited (finding.Refused refusal) h = refl
      audited finding.OutOfMemory h = refl
      audited _ h = elim h [ ]

  input_quiet : (c : Command) (bytes : List ℕ) (found : Finding) → InputComesTo c bytes found left
      → (tells_fault (status_of found) ≡ false) × ((c ≡ command.Audit) ⊎ (faults_in left.journal ≡ 0))
  input_quiet c bytes found (inl served) = plan_quiet c served.plan bytes found served.comes
  input_quiet c bytes found (inr (inl away)) = let q = away_quiet c bytes found away in (q.0, inr q.1)
  input_quiet c bytes found (inr (inr graph)) = let q = printed_quiet _ found graph.prints in (q.0, inr q.1)

module _ {P : Type 0} (call : Call P) (sink : SinkUse) (nothing : NothingFailed call sink) where
  came_quiet : (found : Finding) → CameTo call found
      → (tells_fault (status_of found) ≡ false) × ((call.asked ≡ Some command.Audit) ⊎ (faults_in call.left.journal ≡ 0))
  came_quiet found (inl usage) =
      (ap (λ f. tells_fault (status_of f)) usage.finding, inr (empty_quiet call.left.journal usage.idle.unplayed))
  came_quiet found (inr (inl cell)) = elim cell.comes [
    | inl worked ↦ let q = cell_quiet call.left nothing.laid nothing.put worked.plan cell.cycles found worked.comes in (q.0, inr q.1)
    | inr away ↦ let q = unworked_quiet call.left nothing.laid nothing.put found away in (q.0, inr q.1)
  ]
  came_quiet found (inr (inr (inl u))) = (by u.error u.finding u.cause, inr (empty_quiet call.left.journal u.idle.unplayed))
    where
      by : (e : ReadError) → found ≡ unread_finding e → HasStopped call.source e → tells_fault (status_of found) ≡ false
      by error.Fault same cause = absurd (nothing.read (counted_up-rose _ _ cause))
      by error.TooLong same cause = ap (λ f. tells_fault (status_of f)) same
      by error.OutOfMemory same cause = ap (λ f. tells_fault (status_of f)) same
  came_quiet found (inr (inr (inr r))) =
      let q = input_quiet call.left nothing.laid nothing.put r.command r.bytes found r.comes in (
        q.0,
        elim q.1 [ inl audit ↦ inl (r.given ∙ ap (λ c. Some c) audit) | inr none ↦ inr none ],
      )

pub answer_spared : {P : Type 0} (call : Call P) (sink : SinkUse) (answer : Status) → Answers call sink answer
    → NothingFailed call sink → IsSpared call answer
answer_spared call sink answer a nothing = by a.tells
    (came_quiet (with_journal call a.journal) sink
    (record { read = nothing.read; written = nothing.written; laid = nothing.laid; put = nothing.put }) a.finding a.came)
  where
    by : Tells a.finding a.journal call.left.journal sink answer
        → (tells_fault (status_of a.finding) ≡ false) × ((call.asked ≡ Some command.Audit) ⊎ (faults_in a.journal ≡ 0))
        → IsSpared call answer
    by (inl whole) found = record {
      answered = ap tells_fault whole.answered ∙ found.0;
      played = elim found.1 [ inl audit ↦ inl audit | inr none ↦ inr (ap faults_in whole.kept ∙ none) ];
    }
    by (inr (inl cut)) found = absurd (nothing.written (counted_up-rose _ _ cut.cause))
    by (inr (inr lost)) found = record { answered = ap tells_fault lost.answered; played = inr (ap faults_in lost.kept) }
