-- The device refuses a restore: the action has failed.
--
-- The script:
--   participant ann / object x 1 / object y 2 / drill y 2 / action u / use x y / roles r / body r / put x 10 / put
--   y 20 / undo / end / play u ann
use Rattle.std.proofs.Common.{◌≡◌, ℕ, pos, List, [], ◌∷◌, refl, codes, rules}
use Rattle.caa_base.specs.declared.written.entry.Entry.{Entry}
use Rattle.caa_base.specs.declared.written.entry.Verdict.TheVariants as verdict
use Rattle.place_plan.specs.Plans.Bound.{action_bound}
use Rattle.place_plan.specs.Drafts.DraftRules.{depth_within}
use Rattle.place_plan.specs.Plans.PlanValue.{Plan}
use Rattle.place_plan.specs.Plans.Unfolding.{unfold_at}
use Rattle.place_plan.specs.declared.drafts.draft.Draft.{Draft}
use Rattle.place_plan.specs.declared.drafts.draft_rows.AbortRow.TheVariants as abort
use Rattle.place_plan.specs.declared.drafts.draft_rows.ActionRow.{ActionRow}
use Rattle.place_plan.specs.declared.drafts.draft_rows.RoleRow.{RoleRow}
use Rattle.place_plan.specs.declared.drafts.draft_rows.Step.TheVariants as step
use Rattle.worked_journals.proofs.Notation.{plain_graph, arrive, start, write, verdict_undo, undo, restore_well, restore_failed, end_failed, leave, object, program, role, action, drill, played, unfolded, play, complete_from, kept_value, IsWorked}

-- ---- the draft and its unfolding

abbrev pub ann : ℕ
ann = 0

abbrev pub x : ℕ
x = 0

abbrev pub y : ℕ
y = 1

abbrev pub u_r : RoleRow
u_r = role (codes "r") (program (step.Put x (pos 10) ∷ step.Put y (pos 20) ∷ []) verdict.Undo) [] abort.Never

abbrev pub u_action : ActionRow
u_action = action (codes "u") (x ∷ y ∷ []) (u_r ∷ []) []

abbrev pub draft : Draft
draft =
    record {
      participants = codes "ann" ∷ [];
      objects = object (codes "x") 1 ∷ object (codes "y") 2 ∷ [];
      graphs = plain_graph ∷ [];
      actions = u_action ∷ [];
      plays = played 0 (ann ∷ []) ∷ [];
      drills = drill y 2 ∷ [];
      watches = [];
    }

abbrev pub plan : Plan
plan =
    unfolded draft
    (play 0 (ann ∷ []) [] ∷ [])
    (0 ∷ [])

-- ---- the journal

abbrev pub journal : List Entry
journal =
    arrive 0 ann
    ∷ start 0 ann
    ∷ write 0 ann x 10
    ∷ write 0 ann y 20
    ∷ verdict_undo 0 ann
    ∷ undo 0 ann
    ∷ restore_well 0 ann x 1
    ∷ restore_failed 0 ann y 2
    ∷ end_failed 0 ann
    ∷ leave 0 ann
    ∷ []

pub worked : IsWorked draft plan journal
    (pos 1 ∷ pos 20 ∷ [])
    ((x, pos 10) ∷ (y, pos 20) ∷ (x, pos 1) ∷ [])
    16
unfolding unfold_at depth_within action_bound
worked = record {
  unfolds = record { whole = refl; same = refl };
  legal = assumption;
  complete = complete_from plan journal refl;
  well_formed = search rules;
  leaves = refl;
  taken = refl;
  bounded = refl;
}

pub kept_values : kept_value plan journal x ≡ pos 1
kept_values = refl
