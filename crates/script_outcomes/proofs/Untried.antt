-- Behind an action that can't end undone no alternate is tried.
use Rattle.std.proofs.Common.{◌≡◌, ℕ, Bool, true, false, List, [], ◌∷◌, ◌++◌, map, length, slice_index_or, zero, suc, sym, ap, ◌∙◌, subst}
use Rattle.std.proofs.lemmas.Bool.{false≢true, false_from_ne_true, both_ways}
use Rattle.caa_base.specs.declared.written.entry.Kind.TheVariants as kind
use Rattle.caa_base.specs.declared.written.entry.Outcome.TheVariants as outcome
use Rattle.caa_base.specs.Written.Lists.{first_of}
use Rattle.place_plan.specs.Plans.PlanValue.{Plan}
use Rattle.place_plan.specs.Plans.Places.{alternates_of}
use Rattle.journal_laws.specs.Laws.{Holds}
use Rattle.journal_laws.proofs.Playable.{IsPlayable}
use Rattle.journal_laws.proofs.Core.{Core}
use Rattle.journal_laws.proofs.Said.{has_maker}
use Rattle.reach_laws.specs.Reach.{action_number, EndsNotOtherwise}
use Rattle.reach_laws.proofs.ListsAlone.{at_member, rises_by}
use Rattle.reach_laws.proofs.Planned.{IsPlanned}
use Rattle.reach_laws.proofs.Carried.{silent_can}
use Rattle.reach_tables.specs.declared.table.ReachRow.{ReachRow}
use Rattle.reach_tables.specs.ReachTable.{row_of, LeavesNothingOut}
use Rattle.reach_tables.proofs.AllTold.{end_told}
use Rattle.script_outcomes.specs.declared.outlooks.Outlook.{Outlook}
use Rattle.script_outcomes.specs.Endings.{ends_undone}
use Rattle.script_outcomes.specs.Untried.{NeverTriedBehind, ListUntried, TellsUntried}
use Rattle.script_outcomes.proofs.RuledOut.{each_more}

-- by a table that leaves nothing out: whoever comes to a later alternate has left the earlier one undone
pub untried_behind : (plan : Plan) → IsPlayable plan → Holds Core plan → IsPlanned plan → Holds EndsNotOtherwise plan
    → (table : List ReachRow) → LeavesNothingOut plan table → (a : ℕ) → (row_of table a).undone ≡ false → NeverTriedBehind plan a
untried_behind plan playable core planned law table all a none past legal p k i j c d l at_c at_d here came =
    let xs = alternates_of plan p k in
    let this = playable.placed p k c (at_member xs i c at_c) in
    let that = playable.placed p k d (at_member xs j d at_d) in
    let some = has_maker kind.Arrive d past came in
    let turn = (core past legal).visits.turn p c d some.0 (ap first_of this.0) (ap first_of that.0) (this.1 ∙ sym that.1)
    (rises_by 0 xs i j c d (playable.in_row p k) l at_c at_d) some.1 in
    let can = silent_can plan playable core planned past legal (law past legal).ended c turn.1 in
    let told : (row_of table (action_number plan c)).undone ≡ true = end_told plan table all (action_number plan c) outcome.Undone can in
    false≢true (sym none ∙ subst (λ b. (row_of table b).undone ≡ true) here told)

-- of a list of what the rows say
pub list_untried : (plan : Plan) → IsPlayable plan → Holds Core plan → IsPlanned plan → Holds EndsNotOtherwise plan
    → (table : List ReachRow) → LeavesNothingOut plan table → ListUntried plan (map (λ (row : ReachRow). row.undone) table)
list_untried plan playable core planned law table all a none =
    untried_behind plan playable core planned law table all a (by_row table a none)
  where
    by_row : (rows : List ReachRow) (n : ℕ) → slice_index_or (map (λ (row : ReachRow). row.undone) rows) n true ≡ false
        → (row_of rows n).undone ≡ false
    by_row [] n e = absurd (false≢true (sym e))
    by_row (row ∷ rows) zero e = e
    by_row (row ∷ rows) (suc n) e = by_row rows n e

-- the outlook of the next action, which can end undone if the list says so
pub untried_more : (plan : Plan) (undone : List Bool) (outlooks : List Outlook) (outlook : Outlook) → ListUntried plan undone
    → TellsUntried plan outlooks → (slice_index_or undone (length outlooks) true ≡ true → ends_undone outlook ≡ true)
    → TellsUntried plan (outlooks ++ outlook ∷ [])
untried_more plan undone outlooks outlook listed tells can =
    each_more ends_undone (λ a b. b ≡ false → NeverTriedBehind plan a) true (λ a e. absurd (false≢true (sym e))) outlooks outlook tells
    (λ no. listed (length outlooks) (false_from_ne_true _ (λ w. both_ways _ no (can w))))
