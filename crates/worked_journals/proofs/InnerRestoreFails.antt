-- The inner action fails, and the outer one, which has no handler for that, is undone.
--
-- The script:
--   participant ann / object x 1 / drill x 2 / action inner / use x / roles r / body r / put x 5 / undo / end /
--   action outer / use x / roles s / nest n inner s / body s / enter n / end / play outer ann
use Rattle.std.proofs.Common.{ℕ, pos, List, [], ◌∷◌, refl, codes, rules}
use Rattle.caa_base.specs.declared.written.entry.Entry.{Entry}
use Rattle.caa_base.specs.declared.written.entry.Verdict.TheVariants as verdict
use Rattle.cover_table.specs.Cover.{IsLeastCover}
use Rattle.place_plan.specs.Plans.Bound.{action_bound}
use Rattle.place_plan.specs.Drafts.DraftRules.{depth_within}
use Rattle.place_plan.specs.Plans.Places.{internal_of}
use Rattle.place_plan.specs.Plans.PlanValue.{Plan}
use Rattle.place_plan.specs.Plans.Unfolding.{unfold_at}
use Rattle.place_plan.specs.declared.drafts.draft.Draft.{Draft}
use Rattle.place_plan.specs.declared.drafts.draft_rows.AbortRow.TheVariants as abort
use Rattle.place_plan.specs.declared.drafts.draft_rows.ActionRow.{ActionRow}
use Rattle.place_plan.specs.declared.drafts.draft_rows.NestRow.{NestRow}
use Rattle.place_plan.specs.declared.drafts.draft_rows.RoleRow.{RoleRow}
use Rattle.place_plan.specs.declared.drafts.draft_rows.Step.TheVariants as step
use Rattle.worked_journals.proofs.Notation.{plain_graph, arrive, start, write, resolve, verdict_undo, undo, restore_well, restore_failed, end_undone, end_failed, leave, leave_carrying, universal, object, program, role, nest, action, drill, played, unfolded, play, inner, least_cover_from, complete_from, IsWorked}

-- ---- the draft and its unfolding

abbrev pub ann : ℕ
ann = 0

abbrev pub x : ℕ
x = 0

abbrev pub inner_r : RoleRow
inner_r = role (codes "r") (program (step.Put x (pos 5) ∷ []) verdict.Undo) [] abort.Never

abbrev pub inner_action : ActionRow
inner_action = action (codes "inner") (x ∷ []) (inner_r ∷ []) []

abbrev pub outer_s : RoleRow
outer_s = role (codes "s") (program (step.Enter 0 ∷ []) verdict.Done) [] abort.Never

abbrev pub outer_n : NestRow
outer_n = nest (codes "n") (0 ∷ []) (0 ∷ []) (universal ∷ [])

abbrev pub outer_action : ActionRow
outer_action = action (codes "outer") (x ∷ []) (outer_s ∷ []) (outer_n ∷ [])

abbrev pub draft : Draft
draft =
    record {
      participants = codes "ann" ∷ [];
      objects = object (codes "x") 1 ∷ [];
      graphs = plain_graph ∷ [];
      actions = inner_action ∷ outer_action ∷ [];
      plays = played 1 (ann ∷ []) ∷ [];
      drills = drill x 2 ∷ [];
      watches = [];
    }

abbrev pub plan : Plan
plan =
    unfolded draft
    (play 1 (ann ∷ []) ((1 ∷ []) ∷ [])
    ∷ inner (0 ∷ []) 0 0 (ann ∷ []) [] ∷ [])
    (0 ∷ [])

-- ---- the journal

abbrev pub journal : List Entry
journal =
    arrive 0 ann
    ∷ start 0 ann
    ∷ arrive 1 ann
    ∷ start 1 ann
    ∷ write 1 ann x 5
    ∷ verdict_undo 1 ann
    ∷ undo 1 ann
    ∷ restore_failed 1 ann x 1
    ∷ end_failed 1 ann
    ∷ leave_carrying 1 ann universal
    ∷ resolve 0 ann universal
    ∷ verdict_undo 0 ann
    ∷ undo 0 ann
    ∷ restore_well 0 ann x 1
    ∷ end_undone 0 ann
    ∷ leave 0 ann
    ∷ []

-- universal is the least that covers everything raised
pub universal_is_least : IsLeastCover (internal_of plan 0) (universal ∷ []) universal
universal_is_least = least_cover_from _ _ _ refl

pub worked : IsWorked draft plan journal
    (pos 1 ∷ [])
    ((x, pos 5) ∷ (x, pos 1) ∷ [])
    28
unfolding unfold_at depth_within action_bound
worked = record {
  unfolds = record { whole = refl; same = refl };
  legal = assumption (universal_is_least);
  complete = complete_from plan journal refl;
  well_formed = search rules;
  leaves = refl;
  taken = refl;
  bounded = refl;
}
