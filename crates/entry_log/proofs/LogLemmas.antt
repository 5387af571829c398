-- What a log tells after one more entry, and at its end.
use Rattle.std.proofs.Common.{◌≡◌, ◌∙◌, ℕ, List, [], ◌∷◌, ◌++◌, append_assoc, refl, sym, ap, subst, Option, Result, Ok, Err, OnOk, OnErr, is_err, decimal, arith}
use Rattle.std.specs.Io.KnownBytes.{append_known}
use Rattle.std.specs.List.{flat_map}
use Rattle.std.proofs.lemmas.List.{append-nil, flat_map_more, length-append}
use Rattle.std.proofs.lemmas.Grind.{flat_map-append}
use Rattle.caa_base.specs.Outside.Counts.{counted_up, CountsFault}
use Rattle.caa_base.specs.Outside.Writing.{WrotePart}
use Rattle.caa_base.specs.declared.outside.sink.Sink.{Ghosts as SinkGhosts}
use Rattle.caa_base.specs.declared.written.entry.Entry.{Entry}
use Rattle.caa_base.proofs.KnownBytes.{append_known-more}
use Rattle.place_plan.specs.Plans.PlanValue.{Plan}
use Rattle.caa_base.specs.Written.Lines.{spaced}
use Rattle.journal_text.specs.Texts.Text.{participant_name, kind_word, field_words, first_line, entry_line, entries_text}
use Rattle.journal_text.proofs.OnTexts.BlockLemmas.{append_known-nothing, part_of}
use Rattle.entry_log.specs.declared.sink_log.LogState.{LogState}
use Rattle.entry_log.specs.declared.sink_log.LogState.TheVariants as state
use Rattle.entry_log.specs.Logs.{SinkLog, IsWhole, HasStopped, Tells, TellsBy, TextCame, LineCame, WasCut, WasWritten}

-- the text of one entry more
pub entries_text-more : (plan : Plan) (journal : List Entry) (e : Entry)
    → entries_text plan journal ++ entry_line plan e ≡ entries_text plan (journal ++ e ∷ [])
entries_text-more plan journal e = flat_map_more (entry_line plan) first_line journal e

module _ {K : Type 0} (sinks : SinkGhosts K) (plan : Plan) (journal : List Entry) (e : Entry) where
  -- the whole line was written
  still_whole : (old new opened : K) → WasWritten sinks opened old (entries_text plan journal)
      → WasWritten sinks old new (entry_line plan e) → WasWritten sinks opened new (entries_text plan (journal ++ e ∷ []))
  still_whole old new opened whole came = record {
    written = append_known-more _ _ _ _ _ _ whole.written came.written (entries_text-more plan journal e);
    unfailed = came.unfailed ∙ whole.unfailed;
  }

  -- of the line a front was written and not all
  now_stopped : (log : SinkLog K) (old : K) → sinks.held old ≡ append_known (sinks.held log.opened) (entries_text plan journal)
      → WrotePart (sinks.held old) (sinks.held log.sink) (entry_line plan e) → HasStopped sinks log plan (journal ++ e ∷ [])
  now_stopped log old lines part = record {
    before = journal;
    entry = e;
    after = [];
    all = refl;
    part = subst (λ k. WrotePart k (sinks.held log.sink) (entry_line plan e)) lines part;
  }

  -- nothing of a line is a front of it
  no_part : (held : Option (List ℕ)) → WrotePart held held (entry_line plan e)
  no_part held = record {
    count = 0;
    proper =
        omega (
          arith,
          length-append (kind_word e.kind ++ spaced (decimal e.place ∷ participant_name plan e.by ∷ field_words e.kind plan e)) (10 ∷ []),
        );
    front = sym (append_known-nothing held);
  }

  -- what a log that was whole tells after this line
  after_line : (old new opened : K) (s : LogState) → WasWritten sinks opened old (entries_text plan journal)
      → LineCame sinks old new (entry_line plan e) s
      → TellsBy s sinks (record { sink = new; opened = opened; state = s }) plan (journal ++ e ∷ [])
  after_line old new opened state.Whole whole came = still_whole old new opened whole came
  after_line old new opened state.Failed whole came =
      (now_stopped _ old whole.written came.part, came.cause ∙ ap counted_up whole.unfailed)
  after_line old new opened state.NoMemory whole came = (
    now_stopped _ old whole.written (subst (λ k. WrotePart (sinks.held old) (sinks.held k) (entry_line plan e)) (sym came) (no_part (sinks.held old))),
    ap sinks.faults came ∙ whole.unfailed,
  )

  -- and so for the log
  pub added_line : (old : SinkLog K) (new : K) (s : LogState) → old.state ≡ state.Whole → Tells sinks old plan journal
      → LineCame sinks old.sink new (entry_line plan e) s
      → Tells sinks (record { sink = new; opened = old.opened; state = s }) plan (journal ++ e ∷ [])
  added_line old new s is told came = (
    told.0,
    after_line old.sink new old.opened s (subst (λ t. TellsBy t sinks old plan journal) is told.1) came,
  )

  -- it had stopped before
  still_stopped : (log : SinkLog K) → HasStopped sinks log plan journal → HasStopped sinks log plan (journal ++ e ∷ [])
  still_stopped log stopped = record {
    before = stopped.before;
    entry = stopped.entry;
    after = stopped.after ++ e ∷ [];
    all = ap (λ j. j ++ e ∷ []) stopped.all ∙ append_assoc stopped.before (stopped.entry ∷ stopped.after) (e ∷ []);
    part = stopped.part;
  }

  -- what a log that had stopped tells of one entry more
  pub stays_stopped : (log : SinkLog K) (s : LogState) → (s ≡ state.Whole → ⊥) → TellsBy s sinks log plan journal
      → TellsBy s sinks log plan (journal ++ e ∷ [])
  stays_stopped log state.Whole other told = absurd (other refl)
  stays_stopped log state.Failed other told = (still_stopped log told.0, told.1)
  stays_stopped log state.NoMemory other told = (still_stopped log told.0, told.1)

-- ---- the end

-- the text of a journal, and at one of its entries
split_text : (plan : Plan) (before after : List Entry) (e : Entry) (rest : List ℕ)
    → entries_text plan (before ++ e ∷ after) ++ rest
    ≡ entries_text plan before ++ (entry_line plan e ++ (flat_map (entry_line plan) after ++ rest))
split_text plan before after e rest =
    ap (λ l. (first_line ++ l) ++ rest) (flat_map-append (entry_line plan) before (e ∷ after)) ∙ grind (arith, append_assoc)

module _ {K : Type 0} (sinks : SinkGhosts K) (plan : Plan) (journal : List Entry) where
  -- a log that still writes is whole
  pub whole_of : (log : SinkLog K) → log.state ≡ state.Whole → Tells sinks log plan journal → IsWhole sinks log plan journal
  whole_of log is told = subst (λ s. TellsBy s sinks log plan journal) is told.1

module _ {K : Type 0} (sinks : SinkGhosts K) (plan : Plan) (journal : List Entry) (rest : List ℕ) where
  -- the log had stopped: a front of the text was written and not all
  pub stopped_part : (log : SinkLog K) → HasStopped sinks log plan journal
      → WrotePart (sinks.held log.opened) (sinks.held log.sink) (entries_text plan journal ++ rest)
  stopped_part log stopped =
      part_of _ _ _ (entries_text plan stopped.before) (entry_line plan stopped.entry)
      (flat_map (entry_line plan) stopped.after ++ rest) _
      (ap (λ j. entries_text plan j ++ rest) stopped.all ∙ split_text plan stopped.before stopped.after stopped.entry rest)
      refl stopped.part

  pub ends_failed : (log : SinkLog K) → TellsBy state.Failed sinks log plan journal
      → WasCut sinks log.opened log.sink (entries_text plan journal ++ rest)
  ends_failed log told = record { part = stopped_part log told.0; cause = told.1 }

  -- what stands behind the entries was written too
  ends_whole : (opened old new : K) → WasWritten sinks opened old (entries_text plan journal) → WasWritten sinks old new rest
      → WasWritten sinks opened new (entries_text plan journal ++ rest)
  ends_whole opened old new whole came = record {
    written = append_known-more _ _ _ _ _ _ whole.written came.written refl;
    unfailed = came.unfailed ∙ whole.unfailed;
  }

  -- a write of it failed
  ends_cut : (opened old new : K) → WasWritten sinks opened old (entries_text plan journal) → WasCut sinks old new rest
      → WasCut sinks opened new (entries_text plan journal ++ rest)
  ends_cut opened old new whole cut = record {
    part =
        part_of _ _ _ (entries_text plan journal) rest [] _ (ap (λ r. entries_text plan journal ++ r) (sym (append-nil rest)))
        whole.written cut.part;
    cause = cut.cause ∙ ap counted_up whole.unfailed;
  }

  -- so writing it comes to this
  pub ends_by : {T E : Type 0} (r : Result T E) (opened old new : K) → WasWritten sinks opened old (entries_text plan journal)
      → OnOk r (sinks.held new ≡ append_known (sinks.held old) rest) → OnErr r (WrotePart (sinks.held old) (sinks.held new) rest)
      → CountsFault (is_err r) (sinks.faults old) (sinks.faults new) → TextCame sinks opened new (entries_text plan journal ++ rest) r
  ends_by (Ok v) opened old new whole done part count = ends_whole opened old new whole (record { written = done; unfailed = count })
  ends_by (Err e) opened old new whole done part count = ends_cut opened old new whole (record { part = part; cause = count })
