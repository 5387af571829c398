-- Work on a negative register, and work for no rounds.
--
-- The script:
--   participant ann / object x -1 / action w / use x / roles r / body r / read x / work 1 / work 0 / end / play w
--   ann
use Rattle.std.proofs.Common.{◌≡◌, ℕ, pos, negsuc, List, [], ◌∷◌, refl, codes, rules}
use Rattle.caa_base.specs.Written.Mixing.{mix, state_after}
use Rattle.caa_base.specs.declared.written.entry.Entry.{Entry}
use Rattle.caa_base.specs.declared.written.entry.Verdict.TheVariants as verdict
use Rattle.place_plan.specs.Plans.Bound.{action_bound}
use Rattle.place_plan.specs.Drafts.DraftRules.{depth_within}
use Rattle.place_plan.specs.Plans.PlanValue.{Plan}
use Rattle.place_plan.specs.Plans.Unfolding.{unfold_at}
use Rattle.place_plan.specs.declared.drafts.draft.Draft.{Draft}
use Rattle.place_plan.specs.declared.drafts.draft_rows.AbortRow.TheVariants as abort
use Rattle.place_plan.specs.declared.drafts.draft_rows.ActionRow.{ActionRow}
use Rattle.place_plan.specs.declared.drafts.draft_rows.RoleRow.{RoleRow}
use Rattle.place_plan.specs.declared.drafts.draft_rows.Step.TheVariants as step
use Rattle.worked_journals.proofs.Notation.{plain_graph, arrive, start, read, work, verdict_done, end_commit, leave, program, role, action, played, unfolded, play, complete_from, kept_value, IsWorked}

-- ---- the draft and its unfolding

abbrev pub ann : ℕ
ann = 0

abbrev pub x : ℕ
x = 0

abbrev pub w_r : RoleRow
w_r = role (codes "r") (program (step.Read x ∷ step.Work 1 ∷ step.Work 0 ∷ []) verdict.Done) [] abort.Never

abbrev pub w_action : ActionRow
w_action = action (codes "w") (x ∷ []) (w_r ∷ []) []

abbrev pub draft : Draft
draft =
    record {
      participants = codes "ann" ∷ [];
      objects = (record { name = codes "x"; initial = negsuc 0 }) ∷ [];
      graphs = plain_graph ∷ [];
      actions = w_action ∷ [];
      plays = played 0 (ann ∷ []) ∷ [];
      drills = [];
      watches = [];
    }

abbrev pub plan : Plan
plan =
    unfolded draft
    (play 0 (ann ∷ []) [] ∷ [])
    (0 ∷ [])

-- ---- the journal

abbrev pub journal : List Entry
journal =
    arrive 0 ann
    ∷ start 0 ann
    ∷ (record (read 0 ann x 0) { value = negsuc 0 })
    ∷ work 0 ann 1 1043980748
    ∷ work 0 ann 0 1043980748
    ∷ verdict_done 0 ann
    ∷ end_commit 0 ann
    ∷ leave 0 ann
    ∷ []

-- what this work gives
pub mixed_1 : pos 1043980748 ≡ mix (negsuc 0) 1
unfolding state_after
mixed_1 = refl

-- what this work gives
pub mixed_2 : pos 1043980748 ≡ mix (pos 1043980748) 0
unfolding state_after
mixed_2 = refl

pub worked : IsWorked draft plan journal
    (negsuc 0 ∷ [])
    []
    16
unfolding unfold_at depth_within action_bound
worked = record {
  unfolds = record { whole = refl; same = refl };
  legal = assumption (mixed_1, mixed_2);
  complete = complete_from plan journal refl;
  well_formed = search rules;
  leaves = refl;
  taken = refl;
  bounded = refl;
}

pub kept_values : kept_value plan journal x ≡ negsuc 0
kept_values = refl
