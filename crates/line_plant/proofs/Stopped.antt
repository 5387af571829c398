-- Lemmas on a device that is given up.
use Rattle.std.proofs.Common.{◌≡◌, ◌⊎◌, inl, inr, ℕ, ℤ, Result, Ok, Err, is_ok, Bool, true, false, ◌||◌, List, [], ◌∷◌, ◌++◌, refl, ap, sym, ◌∙◌, subst, true≢false}
use Rattle.std.specs.List.{list_any}
use Rattle.caa_base.specs.declared.written.entry.Drill.{Drill}
use Rattle.caa_base.specs.declared.written.entry.Entry.{Entry}
use Rattle.caa_base.specs.declared.outside.plant.Asked.{Asked}
use Rattle.caa_base.specs.declared.outside.plant.Asked.TheVariants as asked
use Rattle.caa_base.specs.declared.outside.plant.PlantError.{PlantError}
use Rattle.caa_base.specs.declared.outside.plant.PlantError.TheVariants as refusal
use Rattle.caa_base.specs.declared.outside.source.Source.{Ghosts as SourceGhosts}
use Rattle.caa_base.specs.declared.outside.sink.Sink.{Ghosts as SinkGhosts}
use Rattle.line_plant.specs.declared.hearing.Answer.{Answer}
use Rattle.line_plant.specs.declared.hearing.Answer.TheVariants as answer
use Rattle.line_plant.specs.declared.told.Told.{Told}
use Rattle.line_plant.specs.declared.wire.Wire.{Wire}
use Rattle.line_plant.specs.Answers.{is_well}
use Rattle.line_plant.specs.Devices.{LayCame}
use Rattle.line_plant.specs.Lines.{lay_line, stop_line}
use Rattle.line_plant.specs.Wires.{AskCame, IsStopped}
use Rattle.line_plant.specs.Sent.{was_done}
use Rattle.line_plant.specs.GivenUp.{says_failed, tells_failed, StaysStill}
use Rattle.line_plant.specs.inner.Telling.{Keeps, KeepsStill}
use Rattle.line_plant.proofs.Sending.{undone_behind}

or_true : (a : Bool) → (a || true) ≡ true
or_true true = refl
or_true false = refl

-- one thing more, which isn't done where it comes behind a failure
still_behind : (fatal : List ℕ) (all : List Asked) (a : Asked) → StaysStill fatal all
    → (list_any (tells_failed fatal) all ≡ true → was_done a ≡ false) → StaysStill fatal (all ++ a ∷ [])
still_behind fatal [] a still undone = ((λ _. tt), tt)
still_behind fatal (x ∷ more) a (first, still) undone = (
  (λ told. undone_behind more a (first told) (undone (ap (λ b. b || list_any (tells_failed fatal) more) told))),
  still_behind fatal more a still (λ told. undone (ap (λ b. tells_failed fatal x || b) told ∙ or_true (tells_failed fatal x))),
)

-- what tells of a failure is among the things before, or the last one
told_behind : (fatal : List ℕ) (all : List Asked) (a : Asked) → list_any (tells_failed fatal) (all ++ a ∷ []) ≡ true
    → (list_any (tells_failed fatal) all ≡ true) ⊎ (tells_failed fatal a ≡ true)
told_behind fatal [] a told = by_last (tells_failed fatal a) told where
  by_last : (b : Bool) → (b || false) ≡ true → (false ≡ true) ⊎ (b ≡ true)
  by_last true is = inr refl
  by_last false is = inl is
told_behind fatal (x ∷ more) a told = by_first (tells_failed fatal x) told (told_behind fatal more a) where
  by_first : (b : Bool) → (b || list_any (tells_failed fatal) (more ++ a ∷ [])) ≡ true
      → (list_any (tells_failed fatal) (more ++ a ∷ []) ≡ true → (list_any (tells_failed fatal) more ≡ true) ⊎ (tells_failed fatal a ≡ true))
      → ((b || list_any (tells_failed fatal) more) ≡ true) ⊎ (tells_failed fatal a ≡ true)
  by_first true is later = inl refl
  by_first false is later = later is

module _ {S K : Type 0} (fatal : List ℕ) where
  -- something came that tells of no failure
  still_after : (all : List Asked) (a : Asked) (before after : Wire S K) → tells_failed fatal a ≡ false
      → (was_done a ≡ true → before.is_broken ≡ false) → (IsStopped before → IsStopped after) → KeepsStill fatal all before
      → KeepsStill fatal (all ++ a ∷ []) after
  still_after all a before after silent able stays k = record {
    still = still_behind fatal all a k.still (λ told. undone (k.stopped told).broken (was_done a) refl);
    stopped = λ told. elim (told_behind fatal all a told) [
      | inl earlier ↦ stays (k.stopped earlier)
      | inr now ↦ absurd (true≢false (sym now ∙ silent))
    ];
  } where
    undone : before.is_broken ≡ true → (done : Bool) → was_done a ≡ done → was_done a ≡ false
    undone broken false is = is
    undone broken true is = absurd (true≢false (sym broken ∙ able is))

  -- an entry came
  pub still_entered : (all after_all : List Asked) (e : Entry) (before after : Wire S K) → after_all ≡ all ++ asked.Entered e ∷ []
      → (says_failed fatal e ≡ true → IsStopped after) → (IsStopped before → IsStopped after) → KeepsStill fatal all before
      → KeepsStill fatal after_all after
  still_entered all after_all e before after is stops stays k = subst (λ all. KeepsStill fatal all after) (sym is) (record {
    still = still_behind fatal all (asked.Entered e) k.still (λ _. refl);
    stopped = λ told. elim (told_behind fatal all (asked.Entered e) told) [
      | inl earlier ↦ stays (k.stopped earlier)
      | inr now ↦ stops now
    ];
  })

  -- it was given up
  pub still_stopped : (all : List Asked) (before after : Wire S K) → IsStopped after → KeepsStill fatal all before
      → KeepsStill fatal all after
  still_stopped all before after stopped k = record { still = k.still; stopped = λ _. stopped }

  -- more was heard
  pub still_heard : (all : List Asked) (before after : Wire S K)
      → after ≡ record before { answers = after.answers; heard = after.heard } → KeepsStill fatal all before → KeepsStill fatal all after
  still_heard all before after same k = subst (KeepsStill fatal all) (sym same) (record {
    still = k.still;
    stopped = λ told. let stopped = k.stopped told in record { broken = stopped.broken; spent = stopped.spent };
  })

  -- nothing came yet
  pub still_first : (all : List Asked) (wire : Wire S K) → all ≡ [] → KeepsStill fatal all wire
  still_first all wire none = subst (λ all. KeepsStill fatal all wire) (sym none) (record {
    still = tt;
    stopped = λ told. absurd (true≢false (sym told));
  })

  module _ (sources : SourceGhosts S) (sinks : SinkGhosts K) where
    -- what is stopped stays so where it is asked
    stays_stopped : (before after : Wire S K) (text : List ℕ) (came : Answer) → AskCame sources sinks before after text came
        → IsStopped before → IsStopped after
    stays_stopped before after text came (inl w) stopped = absurd (true≢false (sym stopped.broken ∙ w.able))
    stays_stopped before after text answer.Lost (inr (inl cut)) stopped = absurd (true≢false (sym stopped.broken ∙ cut.able))
    stays_stopped before after text answer.Lost (inr (inr out)) stopped = subst IsStopped (sym out.kept) stopped
    stays_stopped before after text answer.Well (inr none) stopped = absurd none
    stays_stopped before after text answer.Failed (inr none) stopped = absurd none

    -- what is done is asked on a wire that holds
    done_on : (before after : Wire S K) (text : List ℕ) (came : Answer) → AskCame sources sinks before after text came
        → is_well came ≡ true → before.is_broken ≡ false
    done_on before after text came (inl w) well = w.able
    done_on before after text answer.Lost (inr none) well = absurd (true≢false (sym well))
    done_on before after text answer.Well (inr none) well = absurd none
    done_on before after text answer.Failed (inr none) well = absurd none

    -- a put was asked for
    pub still_put : (all after_all : List Asked) (before after : Wire S K) (text : List ℕ) (object : ℕ) (value : ℤ) (back : Bool)
        (came : Answer) → AskCame sources sinks before after text came
        → after_all ≡ all ++ asked.Put object value back (is_well came) ∷ [] → KeepsStill fatal all before → KeepsStill fatal after_all after
    still_put all after_all before after text object value back came asks is k =
        subst (λ all. KeepsStill fatal all after) (sym is)
        (still_after all (asked.Put object value back (is_well came)) before after refl (done_on before after text came asks)
        (stays_stopped before after text came asks) k)

    -- a laying out was asked for
    pub still_laid : (names : List (List ℕ)) (all after_all : List Asked) (before after : Wire S K) (values : List ℤ) (drills : List Drill)
        (puts : ℕ) {T : Type 0} (came : Result T PlantError) (done : Bool) → LayCame sources sinks names before after values came
        → done ≡ is_ok came → after_all ≡ all ++ asked.Laid values drills puts done ∷ [] → KeepsStill fatal all before
        → KeepsStill fatal after_all after
    still_laid names all after_all before after values drills puts came done lay is told k =
        subst (λ all. KeepsStill fatal all after) (sym (told ∙ ap (λ d. all ++ asked.Laid values drills puts d ∷ []) is))
        (still_after all (asked.Laid values drills puts (is_ok came)) before after refl (able came lay) (stays came lay) k)
      where
        able : {T : Type 0} (came : Result T PlantError) → LayCame sources sinks names before after values came → is_ok came ≡ true
            → before.is_broken ≡ false
        able (Ok v) lay ok = lay.able
        able (Err e) lay ok = absurd (true≢false (sym ok))

        stays : {T : Type 0} (came : Result T PlantError) → LayCame sources sinks names before after values came → IsStopped before
            → IsStopped after
        stays (Ok v) lay stopped = absurd (true≢false (sym stopped.broken ∙ lay.able))
        stays (Err refusal.Failed) (inl (inl refused)) stopped =
            stays_stopped before after (lay_line before.next names values) answer.Failed refused stopped
        stays (Err refusal.Failed) (inl (inr lost)) stopped =
            stays_stopped before after (lay_line before.next names values) answer.Lost lost stopped
        stays (Err refusal.Failed) (inr unfit) stopped = subst IsStopped (sym unfit.kept) stopped
        stays (Err refusal.OutOfMemory) kept stopped = subst IsStopped (sym kept) stopped

-- where no write failed, `stop` was sent to what is stopped
pub sent_stop : {S K : Type 0} (sources : SourceGhosts S) (sinks : SinkGhosts K) (names : List (List ℕ)) (listened : Told S)
    (told : Told K) (wire : Wire S K) (k : Keeps sources sinks names listened told wire) → IsStopped wire → wire.is_cut ≡ false
    → k.stop ≡ stop_line
sent_stop sources sinks names listened told wire k ended uncut = by_case ended.spent where
  by_case : (wire.is_cut ≡ true) ⊎ (wire.was_stopped ≡ true) → k.stop ≡ stop_line
  by_case (inl cut) = absurd (true≢false (sym cut ∙ uncut))
  by_case (inr stopped) = k.stopped uncut stopped
