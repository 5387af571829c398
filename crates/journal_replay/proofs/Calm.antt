-- A place that is calm, by its parts.
use Rattle.std.proofs.Common.{◌≡◌, true, false, ℕ, List}
use Rattle.caa_base.specs.declared.written.entry.Entry.{Entry}
use Rattle.place_plan.specs.Plans.PlanValue.{Plan}
use Rattle.place_plan.specs.RulesOfJournals.Whereabouts.{has_started, has_ended, is_undoing}
use Rattle.place_plan.specs.RulesOfJournals.Raising.{is_raised, is_doomed, is_calm}
use Rattle.journal_laws.proofs.Phases.{going_from, calm_from}

pub calm_of : (plan : Plan) (past : List Entry) (p : ℕ) → has_started past p ≡ true → has_ended past p ≡ false
    → is_undoing past p ≡ false → is_doomed plan past p ≡ false → is_raised plan past p ≡ false → is_calm plan past p ≡ true
calm_of plan past p started lasts kept spared unraised =
    let goes = going_from past p lasts started kept in
    calm_from plan past p (record { goes = goes; started = started; lasts = lasts; kept = kept; spared = spared }) unraised
