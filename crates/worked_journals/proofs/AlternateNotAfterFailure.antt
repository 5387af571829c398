-- The first action of a use fails, since a restore is refused: the second is not entered, and the failure is carried out.
--
-- The script: that of the journal with alternates, with the line "drill x 2" after "object x 1".
use Rattle.std.proofs.Common.{◌≡◌, pos, List, [], ◌∷◌, refl, rules}
use Rattle.caa_base.specs.declared.written.entry.Entry.{Entry}
use Rattle.cover_table.specs.Cover.{IsLeastCover}
use Rattle.place_plan.specs.RulesOfJournals.Attempts.{attempts_on}
use Rattle.place_plan.specs.Plans.Bound.{action_bound}
use Rattle.place_plan.specs.Drafts.DraftRules.{depth_within}
use Rattle.place_plan.specs.Plans.Places.{internal_of}
use Rattle.place_plan.specs.Plans.PlanValue.{Plan}
use Rattle.place_plan.specs.Plans.Unfolding.{unfold_at}
use Rattle.place_plan.specs.declared.drafts.draft.Draft.{Draft}
use Rattle.worked_journals.proofs.Notation.{arrive, start, write, resolve, verdict_undo, undo, restore_well, restore_failed, end_undone, end_failed, leave, leave_carrying, universal, drill, least_cover_from, complete_from, IsWorked}
use Rattle.worked_journals.proofs.Alternates as alternates
use Rattle.worked_journals.proofs.Alternates.{ann, x}

abbrev pub draft : Draft
draft = record alternates.draft { drills = drill x 2 ∷ [] }

abbrev pub plan : Plan
plan = record alternates.plan { drills = draft.drills }

-- ---- the journal

abbrev pub journal : List Entry
journal =
    arrive 0 ann
    ∷ start 0 ann
    ∷ arrive 1 ann
    ∷ start 1 ann
    ∷ write 1 ann x 5
    ∷ verdict_undo 1 ann
    ∷ undo 1 ann
    ∷ restore_failed 1 ann x 1
    ∷ end_failed 1 ann
    ∷ leave_carrying 1 ann universal
    ∷ resolve 0 ann universal
    ∷ verdict_undo 0 ann
    ∷ undo 0 ann
    ∷ restore_well 0 ann x 1
    ∷ end_undone 0 ann
    ∷ leave 0 ann
    ∷ []

-- universal is the least that covers everything raised
pub universal_is_least : IsLeastCover (internal_of plan 0) (universal ∷ []) universal
universal_is_least = least_cover_from _ _ _ refl

pub worked : IsWorked draft plan journal
    (pos 1 ∷ [])
    ((x, pos 5) ∷ (x, pos 1) ∷ [])
    43
unfolding unfold_at depth_within action_bound
worked = record {
  unfolds = record { whole = refl; same = refl };
  legal = assumption (universal_is_least);
  complete = complete_from plan journal refl;
  well_formed = search rules;
  leaves = refl;
  taken = refl;
  bounded = refl;
}

-- the device was asked three times, and refused the second
pub attempts : attempts_on journal x ≡ write 1 ann x 5 ∷ restore_failed 1 ann x 1 ∷ restore_well 0 ann x 1 ∷ []
attempts = refl
