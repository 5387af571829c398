-- What the gate of a call was told, from the play to the end of the call.
use Rattle.std.proofs.Common.{◌≡◌, ℕ, Bool, true, false, if◌then◌else◌, List, [], Option, inl, inr, sym, subst}
use Rattle.caa_base.specs.declared.outside.sink.Sink.{Ghosts as SinkGhosts}
use Rattle.caa_base.specs.declared.written.entry.Entry.{Entry}
use Rattle.place_plan.specs.Plans.PlanValue.{Plan}
use Rattle.role_driver.specs.Handling.{IsHanded}
use Rattle.role_driver.specs.Working.{IsTold}
use Rattle.role_driver.proofs.Told.{goes_nowhere}
use Rattle.caa_commands.specs.declared.command.Command.{Command}
use Rattle.caa_commands.specs.declared.finding.Finding.{Finding}
use Rattle.caa_commands.specs.declared.finding.Finding.TheVariants as finding
use Rattle.caa_commands.specs.declared.logging.LogUse.{LogUse}
use Rattle.caa_commands.specs.declared.logging.LogUse.TheVariants as log
use Rattle.caa_commands.specs.declared.status.Status.{Status}
use Rattle.caa_commands.specs.Calls.{DoesNotBegin, Tells}
use Rattle.caa_commands.specs.Findings.{is_played}
use Rattle.caa_commands.specs.Gates.{WasToldAll, IsToldByRun}
use Rattle.caa_commands.specs.Logging.{ToldBy}
use Rattle.caa_commands.specs.OutsideUse.{Left, PlantUse, SinkUse, IsIdle, left_of, sink_use}

-- where no play began, the journal is empty
pub begins_none : {P : Type 0} (plan : Plan) (found : Finding) (left : Left P) → DoesNotBegin plan found left → left.journal ≡ []
begins_none plan finding.PlantFault left h = h.1.unplayed
begins_none plan finding.OutOfMemory left h = h.1.unplayed
begins_none plan finding.Usage left h = absurd h
begins_none plan finding.SourceFault left h = absurd h
begins_none plan (finding.Refused refusal) left h = absurd h
begins_none plan (finding.Checked counts) left h = absurd h
begins_none plan (finding.Played failed text) left h = absurd h
begins_none plan (finding.Printed text) left h = absurd h
begins_none plan (finding.Legal entries) left h = absurd h
begins_none plan (finding.Illegal line) left h = absurd h

module _ (was_told : ℕ → ℕ → ℕ → Type 0) (was_handed : ℕ → ℕ → ℕ → Type 0) where
  -- of an empty journal there is nothing to tell
  pub nothing_told : (journal : List Entry) → journal ≡ [] → WasToldAll was_told was_handed journal
  nothing_told journal none = record {
    works = goes_nowhere (IsTold was_told) [] journal none;
    handlers = goes_nowhere (λ before e. IsHanded was_handed e) [] journal none;
  }

  -- nor where nothing was played
  pub idle_told : {P : Type 0} (asked : Option Command) (plant : PlantUse P) (journal : List Entry) → IsIdle (left_of plant journal)
      → IsToldByRun asked was_told was_handed journal
  idle_told asked plant journal idle = λ is. nothing_told journal idle.unplayed

  same_told : (journal handed : List Entry) → handed ≡ journal → WasToldAll was_told was_handed journal
      → WasToldAll was_told was_handed handed
  same_told journal handed same told = subst (WasToldAll was_told was_handed) (sym same) told

  kept_by : (b : Bool) (journal handed : List Entry) → handed ≡ (if b then journal else []) → WasToldAll was_told was_handed journal
      → WasToldAll was_told was_handed handed
  kept_by true journal handed same told = same_told journal handed same told
  kept_by false journal handed same told = nothing_told handed same

  -- what the gate was told of a journal, it was told of the one that is handed back
  pub kept_told : (found : Finding) (journal handed : List Entry) (sink : SinkUse) (answer : Status)
      → WasToldAll was_told was_handed journal → Tells found journal handed sink answer → WasToldAll was_told was_handed handed
  kept_told found journal handed sink answer told tells = elim tells [
    | inl wrote ↦ same_told journal handed wrote.kept told
    | inr other ↦ elim other [
      | inl cut ↦ kept_by (is_played found) journal handed cut.kept told
      | inr lost ↦ nothing_told handed lost.kept
    ]
  ]

  -- so it is where the journal was written as it was played
  pub log_told : {K : Type 0} (sinks : SinkGhosts K) (found : Finding) (journal handed : List Entry) (left : LogUse K) (after : K)
      (answer : Status) → WasToldAll was_told was_handed journal → ToldBy sinks found journal handed left after answer
      → WasToldAll was_told was_handed handed
  log_told sinks found journal handed (log.Untouched kept) after answer told by =
      kept_told found journal handed (sink_use sinks kept after) answer told by
  log_told sinks found journal handed (log.Unopened kept) after answer told by = same_told journal handed by.0 told
  log_told sinks found journal handed (log.Kept kept) after answer told by = same_told journal handed by.0 told
