-- The inner action commits, and the outer one is undone with what the inner one wrote.
--
-- The script:
--   participant ann / object x 1 / action inner / use x / roles r / body r / put x 5 / end / action outer / use x
--   / roles s / nest n inner s / body s / enter n / undo / end / play outer ann
use Rattle.std.proofs.Common.{◌≡◌, ℕ, pos, List, [], ◌∷◌, refl, codes, rules}
use Rattle.caa_base.specs.declared.written.entry.Entry.{Entry}
use Rattle.caa_base.specs.declared.written.entry.Verdict.TheVariants as verdict
use Rattle.place_plan.specs.Plans.Bound.{action_bound}
use Rattle.place_plan.specs.Drafts.DraftRules.{depth_within}
use Rattle.place_plan.specs.Plans.PlanValue.{Plan}
use Rattle.place_plan.specs.Plans.Unfolding.{unfold_at}
use Rattle.place_plan.specs.declared.drafts.draft.Draft.{Draft}
use Rattle.place_plan.specs.declared.drafts.draft_rows.AbortRow.TheVariants as abort
use Rattle.place_plan.specs.declared.drafts.draft_rows.ActionRow.{ActionRow}
use Rattle.place_plan.specs.declared.drafts.draft_rows.NestRow.{NestRow}
use Rattle.place_plan.specs.declared.drafts.draft_rows.RoleRow.{RoleRow}
use Rattle.place_plan.specs.declared.drafts.draft_rows.Step.TheVariants as step
use Rattle.worked_journals.proofs.Notation.{plain_graph, arrive, start, write, verdict_done, verdict_undo, undo, restore_well, end_commit, end_undone, leave, universal, object, program, role, nest, action, played, unfolded, play, inner, complete_from, kept_value, IsWorked}

-- ---- the draft and its unfolding

abbrev pub ann : ℕ
ann = 0

abbrev pub x : ℕ
x = 0

abbrev pub inner_r : RoleRow
inner_r = role (codes "r") (program (step.Put x (pos 5) ∷ []) verdict.Done) [] abort.Never

abbrev pub inner_action : ActionRow
inner_action = action (codes "inner") (x ∷ []) (inner_r ∷ []) []

abbrev pub outer_s : RoleRow
outer_s = role (codes "s") (program (step.Enter 0 ∷ []) verdict.Undo) [] abort.Never

abbrev pub outer_n : NestRow
outer_n = nest (codes "n") (0 ∷ []) (0 ∷ []) (universal ∷ [])

abbrev pub outer_action : ActionRow
outer_action = action (codes "outer") (x ∷ []) (outer_s ∷ []) (outer_n ∷ [])

abbrev pub draft : Draft
draft =
    record {
      participants = codes "ann" ∷ [];
      objects = object (codes "x") 1 ∷ [];
      graphs = plain_graph ∷ [];
      actions = inner_action ∷ outer_action ∷ [];
      plays = played 1 (ann ∷ []) ∷ [];
      drills = [];
      watches = [];
    }

abbrev pub plan : Plan
plan =
    unfolded draft
    (play 1 (ann ∷ []) ((1 ∷ []) ∷ [])
    ∷ inner (0 ∷ []) 0 0 (ann ∷ []) [] ∷ [])
    (0 ∷ [])

-- ---- the journal

abbrev pub journal : List Entry
journal =
    arrive 0 ann
    ∷ start 0 ann
    ∷ arrive 1 ann
    ∷ start 1 ann
    ∷ write 1 ann x 5
    ∷ verdict_done 1 ann
    ∷ end_commit 1 ann
    ∷ leave 1 ann
    ∷ verdict_undo 0 ann
    ∷ undo 0 ann
    ∷ restore_well 0 ann x 1
    ∷ end_undone 0 ann
    ∷ leave 0 ann
    ∷ []

pub worked : IsWorked draft plan journal
    (pos 1 ∷ [])
    ((x, pos 5) ∷ (x, pos 1) ∷ [])
    28
unfolding unfold_at depth_within action_bound
worked = record {
  unfolds = record { whole = refl; same = refl };
  legal = assumption;
  complete = complete_from plan journal refl;
  well_formed = search rules;
  leaves = refl;
  taken = refl;
  bounded = refl;
}

pub kept_values : kept_value plan journal x ≡ pos 1
kept_values = refl
