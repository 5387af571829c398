-- A use with two actions: the first is undone, and its role goes on to the second in silence.
--
-- The script:
--   participant ann / object x 1 / action bad / use x / roles r / body r / put x 5 / undo / end /
--   action good / use x / roles r / body r / read x / add x 2 / end /
--   action outer / use x / roles s / nest n bad s / alternate n good / body s / enter n / end / play outer ann
use Rattle.std.proofs.Common.{◌≡◌, ℕ, pos, List, [], ◌∷◌, refl, codes, rules}
use Rattle.caa_base.specs.declared.written.entry.Entry.{Entry}
use Rattle.caa_base.specs.declared.written.entry.Verdict.TheVariants as verdict
use Rattle.place_plan.specs.Plans.Bound.{action_bound}
use Rattle.place_plan.specs.Drafts.DraftRules.{depth_within}
use Rattle.place_plan.specs.Plans.PlanValue.{Plan}
use Rattle.place_plan.specs.Plans.Unfolding.{unfold_at}
use Rattle.place_plan.specs.declared.drafts.draft.Draft.{Draft}
use Rattle.place_plan.specs.declared.drafts.draft_rows.AbortRow.TheVariants as abort
use Rattle.place_plan.specs.declared.drafts.draft_rows.ActionRow.{ActionRow}
use Rattle.place_plan.specs.declared.drafts.draft_rows.NestRow.{NestRow}
use Rattle.place_plan.specs.declared.drafts.draft_rows.RoleRow.{RoleRow}
use Rattle.place_plan.specs.declared.drafts.draft_rows.Step.TheVariants as step
use Rattle.worked_journals.proofs.Notation.{plain_graph, arrive, start, read, write, verdict_done, verdict_undo, undo, restore_well, end_commit, end_undone, leave, universal, object, program, role, nest, action, played, unfolded, play, inner, complete_from, kept_value, IsWorked}

-- ---- the draft and its unfolding

abbrev pub ann : ℕ
ann = 0

abbrev pub x : ℕ
x = 0

abbrev pub bad_r : RoleRow
bad_r = role (codes "r") (program (step.Put x (pos 5) ∷ []) verdict.Undo) [] abort.Never

abbrev pub bad_action : ActionRow
bad_action = action (codes "bad") (x ∷ []) (bad_r ∷ []) []

abbrev pub good_r : RoleRow
good_r = role (codes "r") (program (step.Read x ∷ step.Add x (pos 2) ∷ []) verdict.Done) [] abort.Never

abbrev pub good_action : ActionRow
good_action = action (codes "good") (x ∷ []) (good_r ∷ []) []

abbrev pub outer_s : RoleRow
outer_s = role (codes "s") (program (step.Enter 0 ∷ []) verdict.Done) [] abort.Never

abbrev pub outer_n : NestRow
outer_n = nest (codes "n") (0 ∷ 1 ∷ []) (0 ∷ []) (universal ∷ [])

abbrev pub outer_action : ActionRow
outer_action = action (codes "outer") (x ∷ []) (outer_s ∷ []) (outer_n ∷ [])

abbrev pub draft : Draft
draft =
    record {
      participants = codes "ann" ∷ [];
      objects = object (codes "x") 1 ∷ [];
      graphs = plain_graph ∷ [];
      actions = bad_action ∷ good_action ∷ outer_action ∷ [];
      plays = played 2 (ann ∷ []) ∷ [];
      drills = [];
      watches = [];
    }

abbrev pub plan : Plan
plan =
    unfolded draft
    (play 2 (ann ∷ []) ((1 ∷ 2 ∷ []) ∷ [])
    ∷ inner (0 ∷ []) 0 0 (ann ∷ []) []
    ∷ inner (0 ∷ []) 0 1 (ann ∷ []) [] ∷ [])
    (0 ∷ [])

-- ---- the journal

abbrev pub journal : List Entry
journal =
    arrive 0 ann
    ∷ start 0 ann
    ∷ arrive 1 ann
    ∷ start 1 ann
    ∷ write 1 ann x 5
    ∷ verdict_undo 1 ann
    ∷ undo 1 ann
    ∷ restore_well 1 ann x 1
    ∷ end_undone 1 ann
    ∷ leave 1 ann
    ∷ arrive 2 ann
    ∷ start 2 ann
    ∷ read 2 ann x 1
    ∷ write 2 ann x 3
    ∷ verdict_done 2 ann
    ∷ end_commit 2 ann
    ∷ leave 2 ann
    ∷ verdict_done 0 ann
    ∷ end_commit 0 ann
    ∷ leave 0 ann
    ∷ []

pub worked : IsWorked draft plan journal
    (pos 3 ∷ [])
    ((x, pos 5) ∷ (x, pos 1) ∷ (x, pos 3) ∷ [])
    43
unfolding unfold_at depth_within action_bound
worked = record {
  unfolds = record { whole = refl; same = refl };
  legal = search rules;
  complete = complete_from plan journal refl;
  well_formed = search rules;
  leaves = refl;
  taken = refl;
  bounded = refl;
}

pub kept_values : kept_value plan journal x ≡ pos 3
kept_values = refl
