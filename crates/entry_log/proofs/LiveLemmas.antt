-- What a log tells as it goes on, and that it stays live.
use Rattle.std.proofs.Common.{◌≡◌, ◌∙◌, inl, inr, ℕ, ℤ, ◌<◌, if◌then◌else◌, Bool, true, false, ◌||◌, List, [], ◌∷◌, ◌++◌, refl, sym, ap, subst, map, Option, None, Some, IfSome, Result, Ok, Err, OnOk, OnErr, is_ok, is_err, arith}
use Rattle.std.proofs.lemmas.List.{append-nil, flat_map_more, length-append, map-append, take-append-le}
use Rattle.std.proofs.lemmas.List.Elements.{All-pop}
use Rattle.caa_base.specs.Outside.Counts.{counted_up, CountsFault}
use Rattle.caa_base.specs.Outside.PlantState.{after_asked}
use Rattle.caa_base.specs.Outside.Writing.{WrotePart}
use Rattle.std.specs.Io.KnownBytes.{append_known}
use Rattle.caa_base.specs.declared.outside.plant.Asked.{Asked}
use Rattle.caa_base.specs.declared.outside.plant.Asked.TheVariants as asked
use Rattle.caa_base.specs.declared.outside.plant.Plant.{Ghosts as PlantGhosts}
use Rattle.caa_base.specs.declared.outside.sink.Sink.{Ghosts as SinkGhosts}
use Rattle.caa_base.specs.declared.written.entry.Drill.{Drill}
use Rattle.caa_base.specs.declared.written.entry.Entry.{Entry}
use Rattle.caa_base.proofs.KnownBytes.{append_known-more}
use Rattle.place_plan.specs.Plans.PlanValue.{Plan}
use Rattle.place_plan.specs.RulesOfJournals.WellFormed.{IsWellFormed, AllWellFormed}
use Rattle.journal_text.specs.Texts.Text.{first_line, entry_line, entries_text}
use Rattle.journal_text.proofs.OnTexts.BlockLemmas.{append_known-nothing, part_of}
use Rattle.entry_log.specs.declared.course.Course.{Course}
use Rattle.entry_log.specs.declared.line_log.LineLog.{LineLog}
use Rattle.entry_log.specs.declared.line_log.LogStage.{LogStage}
use Rattle.entry_log.specs.declared.line_log.LogStage.TheVariants as stage
use Rattle.entry_log.specs.Live.{Opening, Moment, TookAll, TookFront, HasTaken, IsLive, is_put, entries_with, with_entry, opening_of}
use Rattle.entry_log.specs.LineLogs.{TellsAt, Tells, AllCame, stage_after}
use Rattle.entry_log.specs.LoggedPlants.{IsOnlyPlanOf, is_laid, was_laid}
use Rattle.entry_log.specs.inner.Keeping.{Keeps}

-- ---- what a write adds

module _ {K : Type 0} (sinks : SinkGhosts K) (opening : Opening) (old new : K) (front bytes : List ℕ) where
  -- all of these bytes were written behind others
  all_behind : TookAll sinks opening old front → sinks.held new ≡ append_known (sinks.held old) bytes
      → sinks.faults new ≡ sinks.faults old → TookAll sinks opening new (front ++ bytes)
  all_behind took written unfailed = record {
    written = append_known-more _ _ _ _ _ _ took.written written refl;
    unfailed = unfailed ∙ took.unfailed;
  }

  -- a front of them was
  front_behind : TookAll sinks opening old front → WrotePart (sinks.held old) (sinks.held new) bytes
      → sinks.faults new ≡ counted_up (sinks.faults old) → TookFront sinks opening new (front ++ bytes)
  front_behind took part failed = record {
    part = part_of _ _ _ front bytes [] _ (ap (λ b. front ++ b) (sym (append-nil bytes))) took.written part;
    cause = failed ∙ ap counted_up took.unfailed;
  }

  -- whatever the write came to
  pub came_behind : {T E : Type 0} (r : Result T E) → TookAll sinks opening old front
      → OnOk r (sinks.held new ≡ append_known (sinks.held old) bytes) → OnErr r (WrotePart (sinks.held old) (sinks.held new) bytes)
      → CountsFault (is_err r) (sinks.faults old) (sinks.faults new) → AllCame sinks opening new (front ++ bytes) r
  came_behind (Ok v) took done part count = all_behind took done count
  came_behind (Err e) took done part count = front_behind took part count

-- a front of a text is one of a longer one
pub front_longer : {K : Type 0} (sinks : SinkGhosts K) (opening : Opening) (sink : K) (bytes more : List ℕ)
    → TookFront sinks opening sink bytes → TookFront sinks opening sink (bytes ++ more)
front_longer sinks opening sink bytes more took = record {
  part = record {
    count = took.part.count;
    proper = omega (arith, took.part.proper, length-append bytes more);
    front =
        took.part.front
        ∙ ap (append_known opening.held) (sym (take-append-le took.part.count bytes more (omega (arith, took.part.proper))));
  };
  cause = took.cause;
}

-- the text of one entry more
text_more : (plan : Plan) (entries : List Entry) (e : Entry)
    → entries_text plan entries ++ entry_line plan e ≡ entries_text plan (entries ++ e ∷ [])
text_more plan entries e = flat_map_more (entry_line plan) first_line entries e

module _ {K : Type 0} (sinks : SinkGhosts K) (plan : Plan) (opening : Opening) where
  -- a log begins
  pub begins : {T E : Type 0} (r : Result T E) (old new : K) (entries : List Entry) → TellsAt stage.Unopened sinks plan opening old entries
      → OnOk r (sinks.held new ≡ append_known (sinks.held old) first_line) → OnErr r (WrotePart (sinks.held old) (sinks.held new) first_line)
      → CountsFault (is_err r) (sinks.faults old) (sinks.faults new) → TellsAt (stage_after r) sinks plan opening new entries
  begins (Ok v) old new entries told done part count =
      subst (λ es. TookAll sinks opening new (entries_text plan es)) (sym told.0)
      (all_behind sinks opening old new [] first_line told.1 done count)
  begins (Err e) old new entries told done part count =
      subst (λ es. TookFront sinks opening new (entries_text plan es)) (sym told.0)
      (front_behind sinks opening old new [] first_line told.1 part count)

  -- a log goes on with the line of an entry
  pub goes_on : {T E : Type 0} (r : Result T E) (old new : K) (entries : List Entry) (e : Entry)
      → TellsAt stage.Whole sinks plan opening old entries
      → OnOk r (sinks.held new ≡ append_known (sinks.held old) (entry_line plan e))
      → OnErr r (WrotePart (sinks.held old) (sinks.held new) (entry_line plan e))
      → CountsFault (is_err r) (sinks.faults old) (sinks.faults new)
      → TellsAt (stage_after r) sinks plan opening new (entries ++ e ∷ [])
  goes_on (Ok v) old new entries e told done part count =
      subst (TookAll sinks opening new) (text_more plan entries e)
      (all_behind sinks opening old new (entries_text plan entries) (entry_line plan e) told done count)
  goes_on (Err x) old new entries e told done part count =
      subst (TookFront sinks opening new) (text_more plan entries e)
      (front_behind sinks opening old new (entries_text plan entries) (entry_line plan e) told part count)

  -- a log that has stopped tells of one entry more
  pub stays_failed : (sink : K) (entries : List Entry) (e : Entry) → TellsAt stage.Failed sinks plan opening sink entries
      → TellsAt stage.Failed sinks plan opening sink (entries ++ e ∷ [])
  stays_failed sink entries e told =
      subst (TookFront sinks opening sink) (text_more plan entries e)
      (front_longer sinks opening sink (entries_text plan entries) (entry_line plan e) told)

  -- a log that has begun has taken the text of the entries
  pub has_taken : (log : LineLog K) (entries : List Entry) → (log.stage ≡ stage.Unopened → ⊥) → Tells sinks plan opening log entries
      → HasTaken sinks opening log.sink (entries_text plan entries)
  has_taken log entries begun told = by_stage log.stage begun told where
    by_stage : (s : LogStage) → (s ≡ stage.Unopened → ⊥) → TellsAt s sinks plan opening log.sink entries
        → HasTaken sinks opening log.sink (entries_text plan entries)
    by_stage stage.Unopened begun told = absurd (begun refl)
    by_stage stage.Whole begun told = inl told
    by_stage stage.Failed begun told = inr told

-- ---- a course with one thing more

module _ {K : Type 0} where
  pub entries_more : (entries : List Entry) (seen : List (Moment K)) (m : Moment K)
      → entries_with entries (seen ++ m ∷ []) ≡ with_entry (entries_with entries seen) m.came
  entries_more entries [] m = refl
  entries_more entries (n ∷ seen) m = entries_more (with_entry entries n.came) seen m

  pub laid_more : (seen : List (Moment K)) (m : Moment K) → was_laid (seen ++ m ∷ []) ≡ (was_laid seen || is_laid m.came)
  laid_more [] m = last (is_laid m.came) where
    last : (b : Bool) → (b || false) ≡ b
    last true = refl
    last false = refl
  laid_more (n ∷ seen) m = by_first (is_laid n.came) (laid_more seen m) where
    by_first : (b : Bool) → was_laid (seen ++ m ∷ []) ≡ (was_laid seen || is_laid m.came)
        → (b || was_laid (seen ++ m ∷ [])) ≡ ((b || was_laid seen) || is_laid m.came)
    by_first true rest = refl
    by_first false rest = rest

  pub live_more : (sinks : SinkGhosts K) (plan : Plan) (opening : Opening) (entries : List Entry) (seen : List (Moment K)) (m : Moment K)
      → IsLive sinks plan opening entries seen
      → (is_put m.came ≡ true → HasTaken sinks opening m.sink (entries_text plan (entries_with entries seen)))
      → IsLive sinks plan opening entries (seen ++ m ∷ [])
  live_more sinks plan opening entries [] m live put = (put, tt)
  live_more sinks plan opening entries (n ∷ seen) m live put =
      (live.0, live_more sinks plan opening (with_entry entries n.came) seen m live.1 put)

  -- all that came is the history, as it goes on
  all_more : (known : Option (List Asked)) (seen : List (Moment K)) (m : Moment K) → IfSome known (λ all. all ≡ map (λ n. n.came) seen)
      → IfSome (after_asked known m.came) (λ all. all ≡ map (λ n. n.came) (seen ++ m ∷ []))
  all_more None seen m same = tt
  all_more (Some all) seen m same =
      ap (λ a. a ++ m.came ∷ []) same ∙ sym (map-append (λ (n : Moment K). n.came) seen (m ∷ []))

-- what is kept where one thing more came
module _ {P K : Type 0} (plants : PlantGhosts P) (sinks : SinkGhosts K) (script : List ℕ) (plan : Plan) (before after : P)
    (old new : LineLog K) (was is : Course K) (m : Moment K) where
  pub keeps_more : Keeps plants sinks script plan before old was → is.seen ≡ was.seen ++ m ∷ [] → is.opened ≡ was.opened
      → plants.history after ≡ after_asked (plants.history before) m.came
      → (was_laid is.seen ≡ true → new.stage ≡ stage.Unopened → ⊥)
      → (AllWellFormed plan (with_entry (entries_with [] was.seen) m.came) → AllWellFormed plan (entries_with [] was.seen))
      → (AllWellFormed plan (with_entry (entries_with [] was.seen) m.came)
      → Tells sinks plan (opening_of sinks was.opened) old (entries_with [] was.seen)
      → Tells sinks plan (opening_of sinks was.opened) new (with_entry (entries_with [] was.seen) m.came))
      → (Tells sinks plan (opening_of sinks was.opened) old (entries_with [] was.seen) → is_put m.came ≡ true
      → HasTaken sinks (opening_of sinks was.opened) m.sink (entries_text plan (entries_with [] was.seen)))
      → Keeps plants sinks script plan after new is
  keeps_more kept seen opened history begun front tells put =
      let all_entries = ap (entries_with []) seen ∙ entries_more [] was.seen m in
      record {
        planned = kept.planned;
        all =
            subst (λ s. IfSome (plants.history after) (λ all. all ≡ map (λ n. n.came) s)) (sym seen)
            (subst (λ h. IfSome h (λ all. all ≡ map (λ n. n.came) (was.seen ++ m ∷ []))) (sym history)
            (all_more (plants.history before) was.seen m kept.all));
        begun = begun;
        told = λ formed.
            let so = subst (AllWellFormed plan) all_entries formed in
            subst (λ k. Tells sinks plan (opening_of sinks k) new (entries_with [] is.seen)) (sym opened)
            (subst (Tells sinks plan (opening_of sinks was.opened) new) (sym all_entries) (tells so (kept.told (front so))));
        live = λ formed.
            let so = front (subst (AllWellFormed plan) all_entries formed) in
            subst (λ k. IsLive sinks plan (opening_of sinks k) [] is.seen) (sym opened)
            (subst (IsLive sinks plan (opening_of sinks was.opened) []) (sym seen)
            (live_more sinks plan (opening_of sinks was.opened) [] was.seen m (kept.live so) (put (kept.told so))));
      }

-- an object that can be put was laid out
pub laid_of : (laid : Bool) (objects object : ℕ) → object < (if laid then objects else 0) → laid ≡ true
laid_of true objects object low = refl
laid_of false objects object low = absurd (omega (arith, low))

-- entries and the last of them are well formed
formed_parts : (plan : Plan) (entries : List Entry) (e : Entry) → AllWellFormed plan (entries ++ e ∷ [])
    → AllWellFormed plan entries × IsWellFormed plan e
formed_parts plan entries e formed = All-pop (IsWellFormed plan) (entries ++ e ∷ []) entries (Some e) refl formed

module _ {P K : Type 0} (plants : PlantGhosts P) (sinks : SinkGhosts K) (script : List ℕ) (plan : Plan) (before after : P)
    (old new : LineLog K) (was is : Course K) (kept : Keeps plants sinks script plan before old was) where
  -- a course with something more that was no laying out
  no_laying : (m : Moment K) → is.seen ≡ was.seen ++ m ∷ [] → is_laid m.came ≡ false → was_laid is.seen ≡ true → was_laid was.seen ≡ true
  no_laying m seen none laid =
      by_front (was_laid was.seen) (sym (ap (λ b. was_laid was.seen || b) none) ∙ sym (laid_more was.seen m) ∙ sym (ap was_laid seen) ∙ laid) where
        by_front : (b : Bool) → (b || false) ≡ true → b ≡ true
        by_front true both = refl
        by_front false both = both

  -- the device was asked for a put
  pub keeps_put : (object : ℕ) (value : ℤ) (back done : Bool) (m : Moment K) → m ≡ record { came = asked.Put object value back done; sink = old.sink }
      → is.seen ≡ was.seen ++ m ∷ [] → is.opened ≡ was.opened
      → plants.history after ≡ after_asked (plants.history before) (asked.Put object value back done) → new ≡ old
      → was_laid was.seen ≡ true → Keeps plants sinks script plan after new is
  keeps_put object value back done m of_put seen opened history same laid =
      let put : Moment K = record { came = asked.Put object value back done; sink = old.sink } in
      let added : is.seen ≡ was.seen ++ put ∷ [] = seen ∙ ap (λ n. was.seen ++ n ∷ []) of_put in
      keeps_more plants sinks script plan before after old new was is put kept added opened history
      (λ is_laid unopened. kept.begun laid (ap (λ l. l.stage) (sym same) ∙ unopened))
      (λ formed. formed)
      (λ formed told. subst (λ l. Tells sinks plan (opening_of sinks was.opened) l (entries_with [] was.seen)) (sym same) told)
      (λ told is_put. has_taken sinks plan (opening_of sinks was.opened) old (entries_with [] was.seen) (kept.begun laid) told)

  -- it was told of an entry, whose line was written
  pub keeps_entered : (e : Entry) (m : Moment K) → m ≡ record { came = asked.Entered e; sink = old.sink } → is.seen ≡ was.seen ++ m ∷ []
      → is.opened ≡ was.opened → plants.history after ≡ after_asked (plants.history before) (asked.Entered e)
      → (new.stage ≡ stage.Unopened → ⊥)
      → ((opening : Opening) (entries : List Entry) → IsWellFormed plan e → Tells sinks plan opening old entries
      → Tells sinks plan opening new (entries ++ e ∷ []))
      → Keeps plants sinks script plan after new is
  keeps_entered e m of_entry seen opened history begun tells =
      let entered : Moment K = record { came = asked.Entered e; sink = old.sink } in
      let added : is.seen ≡ was.seen ++ entered ∷ [] = seen ∙ ap (λ n. was.seen ++ n ∷ []) of_entry in
      keeps_more plants sinks script plan before after old new was is entered kept added opened history (λ laid. begun)
      (λ formed. (formed_parts plan (entries_with [] was.seen) e formed).0)
      (λ formed told. tells (opening_of sinks was.opened) (entries_with [] was.seen) (formed_parts plan (entries_with [] was.seen) e formed).1 told)
      (λ told is_put. let no : false ≡ true = is_put in absurd cc)

  -- it was asked to be laid out
  pub keeps_laid : (values : List ℤ) (drills : List Drill) (puts : ℕ) (done : Bool) (m : Moment K)
      → m ≡ record { came = asked.Laid values drills puts done; sink = old.sink } → is.seen ≡ was.seen ++ m ∷ [] → is.opened ≡ was.opened
      → plants.history after ≡ after_asked (plants.history before) (asked.Laid values drills puts done)
      → (done ≡ true → new.stage ≡ stage.Unopened → ⊥) → (done ≡ false → new ≡ old)
      → ((opening : Opening) (entries : List Entry) → Tells sinks plan opening old entries → Tells sinks plan opening new entries)
      → Keeps plants sinks script plan after new is
  keeps_laid values drills puts done m of_lay seen opened history begun same tells =
      let laid : Moment K = record { came = asked.Laid values drills puts done; sink = old.sink } in
      let added : is.seen ≡ was.seen ++ laid ∷ [] = seen ∙ ap (λ n. was.seen ++ n ∷ []) of_lay in
      keeps_more plants sinks script plan before after old new was is laid kept added opened history
      (by_done done refl added)
      (λ formed. formed)
      (λ formed told. tells (opening_of sinks was.opened) (entries_with [] was.seen) told)
      (λ told is_put. let no : false ≡ true = is_put in absurd cc) where
        by_done : (b : Bool) → b ≡ done → is.seen ≡ was.seen ++ (record { came = asked.Laid values drills puts done; sink = old.sink }) ∷ []
            → was_laid is.seen ≡ true → new.stage ≡ stage.Unopened → ⊥
        by_done true is_done added laid = begun (sym is_done)
        by_done false is_done added laid = λ unopened.
            kept.begun (no_laying _ added (sym is_done) laid) (ap (λ l. l.stage) (sym (same (sym is_done))) ∙ unopened)

-- it is kept at first
pub keeps_first : {P K : Type 0} (plants : PlantGhosts P) (sinks : SinkGhosts K) (script : List ℕ) (plan : Plan) (plant : P) (sink : K)
    (course : Course K) → IsOnlyPlanOf script plan → IfSome (plants.history plant) (λ all. all ≡ [])
    → course.seen ≡ [] → course.opened ≡ sink
    → Keeps plants sinks script plan plant (record { sink = sink; stage = stage.Unopened }) course
keeps_first plants sinks script plan plant sink course planned unasked none opened = record {
  planned = planned;
  all = subst (λ s. IfSome (plants.history plant) (λ all. all ≡ map (λ m. m.came) s)) (sym none) unasked;
  begun = λ laid. let no : false ≡ true = sym (ap was_laid none) ∙ laid in absurd cc;
  told = λ formed. (
    ap (entries_with []) none,
    record {
      written = sym (ap (λ k. append_known (sinks.held k) []) opened ∙ append_known-nothing (sinks.held sink));
      unfailed = sym (ap sinks.faults opened);
    },
  );
  live = λ formed. subst (IsLive sinks plan (opening_of sinks course.opened) []) (sym none) tt;
}

module _ {P K : Type 0} (plants : PlantGhosts P) (seen course : List (Moment K)) (before after : P) (m : Moment K) where
  -- the objects that can be put stay as they are where something else came than a laying out
  pub objects_same : course ≡ seen ++ m ∷ [] → is_laid m.came ≡ false → plants.objects after ≡ plants.objects before
      → (if was_laid course then plants.objects after else 0) ≡ (if was_laid seen then plants.objects before else 0)
  objects_same added none same =
      ap (λ b. if b then plants.objects after else 0) (ap was_laid added ∙ laid_more seen m ∙ ap (λ b. was_laid seen || b) none ∙ or_false (was_laid seen))
      ∙ ap (λ n. if was_laid seen then n else 0) same where
        or_false : (b : Bool) → (b || false) ≡ b
        or_false true = refl
        or_false false = refl

  -- once it was laid out they are those that were
  pub objects_laid : {T E : Type 0} (r : Result T E) (objects : ℕ) → course ≡ seen ++ m ∷ [] → is_laid m.came ≡ is_ok r
      → OnOk r (plants.objects after ≡ objects) → OnOk r ((if was_laid course then plants.objects after else 0) ≡ objects)
  objects_laid (Ok v) objects added laid same =
      ap (λ b. if b then plants.objects after else 0) (ap was_laid added ∙ laid_more seen m ∙ ap (λ b. was_laid seen || b) laid ∙ or_true (was_laid seen))
      ∙ same where
        or_true : (b : Bool) → (b || true) ≡ true
        or_true true = refl
        or_true false = refl
  objects_laid (Err e) objects added laid same = tt
