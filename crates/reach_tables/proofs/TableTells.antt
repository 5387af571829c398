-- A table that leaves nothing out tells all that comes in a legal journal.
use Rattle.std.proofs.Common.{◌≡◌, ◌==◌, true, List, refl, sym, subst}
use Rattle.std.proofs.lemmas.Bool.{eq-eqb}
use Rattle.caa_base.specs.declared.written.entry.Entry.{Entry}
use Rattle.caa_base.specs.declared.written.entry.Kind.TheVariants as kind
use Rattle.caa_base.specs.declared.written.entry.Outcome.TheVariants as outcome
use Rattle.place_plan.specs.declared.drafts.draft_rows.ActionRow.{ActionRow}
use Rattle.place_plan.specs.Plans.PlanValue.{Plan}
use Rattle.place_plan.specs.Plans.Places.{graph_at}
use Rattle.place_plan.specs.RulesOfJournals.Entries.{is_in}
use Rattle.place_plan.specs.RulesOfJournals.Whereabouts.{outcome_at}
use Rattle.place_plan.specs.RulesOfJournals.Journals.{LegalPast}
use Rattle.journal_laws.specs.Laws.{Holds}
use Rattle.journal_laws.proofs.Playable.{IsPlayable}
use Rattle.journal_laws.proofs.Core.{Core}
use Rattle.journal_laws.proofs.Newest.{newest_stands}
use Rattle.journal_laws.proofs.Said.{has_maker}
use Rattle.reach_laws.specs.CanCome.{action_of}
use Rattle.reach_laws.specs.Reach.{action_number}
use Rattle.reach_laws.proofs.Planned.{IsPlanned}
use Rattle.reach_laws.proofs.Explained.{makers, raises_no_other, resolves_no_other, ends_not_otherwise, tries_no_other}
use Rattle.reach_tables.specs.declared.table.ReachRow.{ReachRow}
use Rattle.reach_tables.specs.declared.table.Told.{Told}
use Rattle.reach_tables.specs.ReachTable.{row_of, groups_of, can_resolve, LeavesNothingOut, TellsWhatComes, TablesTell}
use Rattle.reach_tables.proofs.AllTold.{raised_told, resolved_told, end_told}

module _ (plan : Plan) (playable : IsPlayable plan) (core : Holds Core plan) (planned : IsPlanned plan) where
  tells : (past : List Entry) → LegalPast plan past → (table : List ReachRow) → LeavesNothingOut plan table
      → TellsWhatComes plan table past
  tells past legal table all = record {
    raised = λ p x m.
        let found = raises_no_other plan playable core planned past legal p x m in
        raised_told plan table all (action_number plan p) found.0 x found.1 (λ (t : Told). t.exception == x) (eq-eqb x x refl);
    resolved = λ p x w.
        let some = has_maker kind.Resolve p past (newest_stands (is_in kind.Resolve p) past x w) in
        let role = makers plan playable core planned past legal kind.Resolve p some.0 some.1 in
        let groups = groups_of (action_of plan (action_number plan p)) (row_of table (action_number plan p)) in
        subst (λ (a : ActionRow). can_resolve (graph_at plan a.internal) groups x ≡ true) (sym (planned.actions p some.0 role))
        (resolved_told plan table all (action_number plan p) x (resolves_no_other plan playable core planned past legal p x w)).1;
    ended = λ p e w spared. end_told plan table all (action_number plan p) (outcome_at e)
        ((ends_not_otherwise plan playable core planned past legal).ended p e w spared);
    behind = λ c d next came. end_told plan table all (action_number plan c) outcome.Undone
        ((tries_no_other plan playable core planned past legal).behind c d next came);
  }

  pub tables_tell : Holds TablesTell plan
  tables_tell past legal table all = tells past legal table all
