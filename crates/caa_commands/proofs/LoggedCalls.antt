-- What a call with a log answers.
use Rattle.std.proofs.Common.{◌≡◌, inl, inr, ℕ, true, false, List, [], length, Option, Some, None, IfSome, is_some, refl, sym, ap, ◌∙◌, subst, subst₂, arith, if◌then◌else◌}
use Rattle.std.specs.Io.KnownBytes.{append_known}
use Rattle.std.proofs.Math.Logic.{∥∥₁_map}
use Rattle.std.proofs.lemmas.List.{append-nil, take_all}
use Rattle.caa_base.specs.Outside.Counts.{Rose}
use Rattle.caa_base.proofs.Counting.{counted_up-rose}
use Rattle.caa_base.specs.Outside.Writing.{WrotePart}
use Rattle.caa_base.specs.declared.outside.plant.Plant.{Ghosts as PlantGhosts}
use Rattle.caa_base.specs.declared.outside.sink.Sink.{Ghosts as SinkGhosts}
use Rattle.caa_base.specs.declared.written.entry.Entry.{Entry}
use Rattle.place_plan.specs.Plans.PlanValue.{Plan}
use Rattle.journal_text.specs.declared.looks.seens.Seen.{Seen}
use Rattle.journal_text.specs.Texts.Text.{first_line, entries_text}
use Rattle.journal_text.proofs.OnTexts.BlockLemmas.{append_known-nothing}
use Rattle.entry_log.specs.declared.sink_log.LogState.{LogState}
use Rattle.entry_log.specs.declared.sink_log.LogState.TheVariants as state
use Rattle.entry_log.specs.Logs.{SinkLog, IsFresh, HasStopped, TellsBy, WasCut, WasWritten, Tells as LogTells}
use Rattle.entry_log.proofs.LogLemmas.{stopped_part}
use Rattle.caa_commands.specs.declared.command.Command.{Command}
use Rattle.caa_commands.specs.declared.command.Command.TheVariants as command
use Rattle.caa_commands.specs.declared.finding.Finding.{Finding}
use Rattle.caa_commands.specs.declared.finding.Finding.TheVariants as finding
use Rattle.caa_commands.specs.declared.logging.LogUse.{LogUse}
use Rattle.caa_commands.specs.declared.logging.LogUse.TheVariants as log
use Rattle.caa_commands.specs.declared.status.Status.{Status}
use Rattle.caa_commands.specs.declared.status.Status.TheVariants as status
use Rattle.caa_commands.specs.Findings.{status_of, finding_text, is_played}
use Rattle.caa_commands.specs.OutsideUse.{SourceUse, SinkUse, Left, Call, sink_use, plant_use, left_of, call_of}
use Rattle.caa_commands.specs.Calls.{EndsAs, PlanComesTo, CameTo, Answers, Tells}
use Rattle.caa_commands.specs.Served.{NothingFailed, MissesNothing, IsSpared}
use Rattle.caa_commands.specs.Logging.{TellsAlike, WasUsed, PlayedInLog, TookFront, EndsLog, ToldBy, WasLeftOff, WasNotBegun, LogAnswers}
use Rattle.caa_commands.proofs.CallsServed.{complete}
use Rattle.caa_commands.proofs.ToldCalls.{answered}

-- ---- the end of a log

module _ {K : Type 0} (sinks : SinkGhosts K) (kept : SinkLog K) (plan : Plan) (journal : List Entry) where
  -- where it has stopped, that isn't all of the text of the entries
  cut_front : HasStopped sinks kept plan journal
      → WrotePart (sinks.held kept.opened) (sinks.held kept.sink) (entries_text plan journal)
  cut_front stopped =
      subst (WrotePart (sinks.held kept.opened) (sinks.held kept.sink)) (append-nil (entries_text plan journal))
      (stopped_part sinks plan journal [] kept stopped)

  -- whatever a log tells, the sink took a front of the text of the entries
  pub took_front : (s : LogState) → TellsBy s sinks kept plan journal
      → TookFront (entries_text plan journal) (sink_use sinks kept.opened kept.sink)
  took_front state.Whole told = record {
    count = length (entries_text plan journal);
    within = omega arith;
    front = told.written ∙ ap (append_known (sinks.held kept.opened)) (sym (take_all (length (entries_text plan journal)) (entries_text plan journal) (omega arith)));
    cause = inl told.unfailed;
  }
  took_front state.Failed told =
      let part = cut_front told.0 in
      record { count = part.count; within = omega (arith, part.proper); front = part.front; cause = inr (told.1, part.proper) }
  took_front state.NoMemory told =
      let part = cut_front told.0 in
      record { count = part.count; within = omega (arith, part.proper); front = part.front; cause = inl told.1 }

  -- no memory was found for the rest
  pub left_off : (found : Finding) (answer : Status) → answer ≡ status.OutOfMemory → LogTells sinks kept plan journal
      → EndsLog plan found journal (sink_use sinks kept.opened kept.sink) answer
  left_off found answer is told = inr (is, took_front kept.state told.1)

  -- the rest was written, and so the text
  pub all_told : (new : K) (found : Finding) (answer : Status) (bytes : List ℕ) → bytes ≡ finding_text found journal
      → answer ≡ status_of found → WasWritten sinks kept.opened new bytes
      → EndsLog plan found journal (sink_use sinks kept.opened new) answer
  all_told new found answer bytes is status came = inl (inl (record {
    kept = refl;
    answered = status;
    written = came.written ∙ ap (append_known (sinks.held kept.opened)) is;
    unfailed = came.unfailed;
  }))

  -- a write failed, now or before
  pub cut_told : (new : K) (found : Finding) (answer : Status) (bytes : List ℕ) → bytes ≡ finding_text found journal → is_played found ≡ true
      → answer ≡ status.SinkFault → WasCut sinks kept.opened new bytes
      → EndsLog plan found journal (sink_use sinks kept.opened new) answer
  cut_told new found answer bytes is played status came = inl (inr (inl (record {
    kept = subst (λ b. journal ≡ (if b then journal else [])) (sym played) refl;
    answered = status;
    part = subst (WrotePart (sinks.held kept.opened) (sinks.held new)) is came.part;
    cause = came.cause;
  })))

module _ {K : Type 0} (sinks : SinkGhosts K) (sink : K) (found : Finding) (journal : List Entry) where
  -- nothing was written yet
  pub not_used : (holds : SinkLog K → Type 0) (became : LogUse K) → became ≡ log.Untouched sink → WasUsed sinks sink holds found journal became
  not_used holds became is = subst (WasUsed sinks sink holds found journal) (sym is) refl

  -- what follows from this of a log holds of it too
  pub used_as : (one other : SinkLog K → Type 0) (became : LogUse K) → ((kept : SinkLog K) → one kept → other kept)
      → WasUsed sinks sink one found journal became → WasUsed sinks sink other found journal became
  used_as one other (log.Untouched left) f used = used
  used_as one other (log.Unopened left) f used = used
  used_as one other (log.Kept kept) f used = f kept used

  -- and where there is no log, anything does
  pub never_kept : (holds : SinkLog K → Type 0) (became : LogUse K) → WasUsed sinks sink (λ _. ⊥) found journal became
      → WasUsed sinks sink holds found journal became
  never_kept holds became used = used_as (λ _. ⊥) holds became (λ kept none. absurd none) used

-- ---- what is answered

-- two fresh sinks hold the same, where both tell it or neither does
fresh_held : (a b : Option (List ℕ)) → IfSome a (λ x. x ≡ []) → IfSome b (λ x. x ≡ []) → is_some a ≡ is_some b → a ≡ b
fresh_held None None p q e = refl
fresh_held None (Some y) p q e = let no : false ≡ true = e in absurd cc
fresh_held (Some x) None p q e = let no : true ≡ false = e in absurd cc
fresh_held (Some x) (Some y) p q e = ap Some (p ∙ sym q)

-- so what was written since is the same of both
fresh_use : {K : Type 0} (sinks : SinkGhosts K) (a b after : K) → IsFresh sinks a → IsFresh sinks b
    → is_some (sinks.held a) ≡ is_some (sinks.held b) → sink_use sinks a after ≡ sink_use sinks b after
fresh_use sinks a b after p q e =
    let held = fresh_held (sinks.held a) (sinks.held b) p.1 q.1 e in
    let faults = p.0 ∙ sym q.0 in
    ap (λ h. record { held_before = h; held_after = sinks.held after; faults_before = sinks.faults a; faults_after = sinks.faults after }) held
    ∙ ap (λ f. record { held_before = sinks.held b; held_after = sinks.held after; faults_before = f; faults_after = sinks.faults after }) faults

-- what a played command comes to where no memory was found for its text
lost_text : {P : Type 0} (c : Command) (plan : Plan) (bytes : List ℕ) (journal : List Entry) (seens : List Seen) (found : Finding)
    (left : Left P) → PlanComesTo c plan bytes found left → EndsAs plan journal seens found
    → PlanComesTo c plan bytes finding.OutOfMemory left
lost_text c plan bytes journal seens finding.OutOfMemory left comes ends = comes
lost_text (command.Sim seed) plan bytes journal seens (finding.Played failed text) left comes ends =
    elim comes [ inl played ↦ inl (played.0, tt) | inr none ↦ absurd none ]
lost_text command.Run plan bytes journal seens (finding.Played failed text) left comes ends = elim comes [
  | inl ran ↦ inl (record { played = ran.played; seens = ran.seens; right = λ is. let e : false ≡ true = is in absurd cc; ends = tt })
  | inr none ↦ absurd none
]
lost_text (command.Pool workers) plan bytes journal seens (finding.Played failed text) left comes ends =
    elim comes [ inl pooled ↦ inl (record { played = pooled.played; ends = tt }) | inr none ↦ absurd none ]
lost_text command.Check plan bytes journal seens (finding.Played failed text) left comes ends = absurd comes
lost_text command.Audit plan bytes journal seens (finding.Played failed text) left comes ends = absurd comes
lost_text (command.Graph most) plan bytes journal seens (finding.Played failed text) left comes ends = absurd comes
lost_text (command.Messages seed) plan bytes journal seens (finding.Played failed text) left comes ends = absurd comes
lost_text (command.Cell cycles) plan bytes journal seens (finding.Played failed text) left comes ends = absurd comes
lost_text c plan bytes journal seens finding.Usage left comes ends = absurd ends
lost_text c plan bytes journal seens finding.SourceFault left comes ends = absurd ends
lost_text c plan bytes journal seens (finding.Refused refusal) left comes ends = absurd ends
lost_text c plan bytes journal seens (finding.Checked counts) left comes ends = absurd ends
lost_text c plan bytes journal seens finding.PlantFault left comes ends = absurd ends
lost_text c plan bytes journal seens (finding.Printed text) left comes ends = absurd ends
lost_text c plan bytes journal seens (finding.Legal entries) left comes ends = absurd ends
lost_text c plan bytes journal seens (finding.Illegal line) left comes ends = absurd ends

module _ {K P : Type 0} (sinks : SinkGhosts K) (plants : PlantGhosts P) (asked : Option Command) (source : SourceUse) (before : P)
    (found : Finding) (answer : Status) where
  -- the call as it came to this, and as it ended
  abbrev call_with : P → List Entry → Call P
  call_with after journal = call_of asked source (left_of (plant_use plants before after) journal)

  told_as_ever : (after : P) (journal handed : List Entry) (sink : SinkUse) → CameTo (call_with after journal) found
      → Tells found journal handed sink answer → Answers (call_with after handed) sink answer
  told_as_ever after journal handed sink came tells = record { finding = found; journal = journal; came = came; tells = tells }

  kept_told : (kept : SinkLog K) (new : K) (after : P) (journal : List Entry) (sink : K) → CameTo (call_with after journal) found
      → (played : PlayedInLog sinks (call_with after journal) found kept)
      → EndsLog played.played.plan found journal (sink_use sinks sink new) answer
      → LogAnswers (call_with after journal) (sink_use sinks sink new) answer
  kept_told kept new after journal sink came played ends = elim ends [
    | inl tells ↦ inl (told_as_ever after journal journal (sink_use sinks sink new) came tells)
    | inr left ↦ inr (inl (record {
      command = played.command;
      given = played.given;
      bytes = played.bytes;
      read = played.read;
      reads = played.reads;
      plan = played.played.plan;
      script = played.played.script;
      comes =
          lost_text played.command played.played.plan played.bytes journal played.played.logged.seens found _ played.played.comes
          played.played.logged.ends;
      answered = left.0;
      front = left.1;
    }))
  ]

  pub log_answered : (sink new : K) → IsFresh sinks sink → TellsAlike sinks → (after : P) (journal handed : List Entry)
      (became : LogUse K) → CameTo (call_with after journal) found
      → WasUsed sinks sink (PlayedInLog sinks (call_with after journal) found) found journal became
      → ToldBy sinks found journal handed became new answer
      → ∥ LogAnswers (call_with after handed) (sink_use sinks sink new) answer ∥₁
  log_answered sink new fresh alike after journal handed (log.Untouched left) came used told =
      ∣ inl (told_as_ever after journal handed (sink_use sinks sink new) came
      (subst (λ k. Tells found journal handed (sink_use sinks k new) answer) used told)) ∣₁
  log_answered sink new fresh alike after journal handed (log.Unopened left) came used told =
      ∣ inr (inr (record {
        came = subst₂ (λ j f. CameTo (call_with after j) f) (sym told.0) used.1.0 came;
        unplayed = told.0 ∙ used.1.1;
        answered = told.2;
        part = subst (λ k. WrotePart (sinks.held sink) (sinks.held k) first_line) (sym told.1) used.0.part;
        cause = ap sinks.faults told.1 ∙ used.0.cause;
      })) ∣₁
  log_answered sink new fresh alike after journal handed (log.Kept kept) came used told =
      let logged = used.played.logged in
      ∥∥₁_map logged.told (λ tells.
      subst (λ j. LogAnswers (call_with after j) (sink_use sinks sink new) answer) (sym told.0)
      (kept_told kept new after journal sink came used
      (subst (λ u. EndsLog used.played.plan found journal u answer) (fresh_use sinks kept.opened sink new tells.0 fresh (alike kept.opened sink))
      (told.1 used.played.plan logged.seens tells logged.ends))))

-- ---- what can be served is served

module _ {P : Type 0} (call : Call P) (sink : SinkUse) (answer : Status) where
  -- a call that was left off answers as one that found no memory for the text and wrote nothing
  abbrev bare : WasLeftOff call sink answer → SinkUse
  bare left = record {
    held_before = sink.held_before;
    held_after = sink.held_before;
    faults_before = sink.faults_before;
    faults_after = sink.faults_before;
  }

  bare_answer : (left : WasLeftOff call sink answer) → Answers call (bare left) answer
  bare_answer left = record {
    finding = finding.OutOfMemory;
    journal = call.left.journal;
    came = inr (inr (inr (record {
      command = left.command;
      given = left.given;
      reads = left.reads;
      bytes = left.bytes;
      read = left.read;
      comes = inl (record { plan = left.plan; script = left.script; comes = left.comes });
    })));
    tells = inl (record { kept = refl; answered = left.answered; written = sym (append_known-nothing sink.held_before); unfailed = refl });
  }

  spared_too : (left : WasLeftOff call sink answer) → NothingFailed call sink → IsSpared call answer
  spared_too left nothing = (complete call (bare left) answer (bare_answer left)).spared (record {
    read = nothing.read;
    written = λ rose. elim left.front.cause [
      | inl same ↦ nothing.written (subst (Rose sink.faults_before) (sym same) rose)
      | inr cut ↦ nothing.written (counted_up-rose _ _ cut.0)
    ];
    laid = nothing.laid;
    put = nothing.put;
  })

  misses_left_off : WasLeftOff call sink answer → MissesNothing call sink answer
  misses_left_off left = record {
    served = λ s. inr (inr left.answered);
    worked = λ s. inr (inr left.answered);
    printed = λ text s. inr left.answered;
    audited = λ found s. inr left.answered;
    refused = λ s. inr left.answered;
    spared = spared_too left;
  }

  misses_not_begun : WasNotBegun call sink answer → MissesNothing call sink answer
  misses_not_begun none =
      let rose = counted_up-rose _ _ none.cause in
      record {
        served = λ s. absurd (s.given.written rose);
        worked = λ s. absurd (s.given.written rose);
        printed = λ text s. absurd (s.given.written rose);
        audited = λ found s. absurd (s.given.written rose);
        refused = λ s. absurd (s.given.written rose);
        spared = λ s. absurd (s.written rose);
      }

  pub log_complete : LogAnswers call sink answer → MissesNothing call sink answer
  log_complete (inl a) = complete call sink answer a
  log_complete (inr (inl left)) = misses_left_off left
  log_complete (inr (inr none)) = misses_not_begun none
