-- Two roles, one of which reads and the other works: the action commits.
--
-- The script:
--   participant ann / participant bob / object x 5 / action look / use x / roles a b / body a / read x / body b /
--   work 2 / end / play look ann bob
use Rattle.std.proofs.Common.{◌≡◌, ℕ, pos, List, [], ◌∷◌, refl, codes, rules}
use Rattle.caa_base.specs.Written.Mixing.{mix, state_after}
use Rattle.caa_base.specs.declared.written.entry.Entry.{Entry}
use Rattle.caa_base.specs.declared.written.entry.Verdict.TheVariants as verdict
use Rattle.place_plan.specs.Plans.Bound.{action_bound}
use Rattle.place_plan.specs.Drafts.DraftRules.{depth_within}
use Rattle.place_plan.specs.Plans.PlanValue.{Plan}
use Rattle.place_plan.specs.Plans.Unfolding.{unfold_at}
use Rattle.place_plan.specs.declared.drafts.draft.Draft.{Draft}
use Rattle.place_plan.specs.declared.drafts.draft_rows.AbortRow.TheVariants as abort
use Rattle.place_plan.specs.declared.drafts.draft_rows.ActionRow.{ActionRow}
use Rattle.place_plan.specs.declared.drafts.draft_rows.RoleRow.{RoleRow}
use Rattle.place_plan.specs.declared.drafts.draft_rows.Step.TheVariants as step
use Rattle.worked_journals.proofs.Notation.{plain_graph, arrive, start, read, work, verdict_done, end_commit, leave, object, program, role, action, played, unfolded, play, complete_from, kept_value, IsWorked}

-- ---- the draft and its unfolding

abbrev pub ann : ℕ
ann = 0

abbrev pub bob : ℕ
bob = 1

abbrev pub x : ℕ
x = 0

abbrev pub look_a : RoleRow
look_a = role (codes "a") (program (step.Read x ∷ []) verdict.Done) [] abort.Never

abbrev pub look_b : RoleRow
look_b = role (codes "b") (program (step.Work 2 ∷ []) verdict.Done) [] abort.Never

abbrev pub look_action : ActionRow
look_action = action (codes "look") (x ∷ []) (look_a ∷ look_b ∷ []) []

abbrev pub draft : Draft
draft =
    record {
      participants = codes "ann" ∷ codes "bob" ∷ [];
      objects = object (codes "x") 5 ∷ [];
      graphs = plain_graph ∷ [];
      actions = look_action ∷ [];
      plays = played 0 (ann ∷ bob ∷ []) ∷ [];
      drills = [];
      watches = [];
    }

abbrev pub plan : Plan
plan =
    unfolded draft
    (play 0 (ann ∷ bob ∷ []) [] ∷ [])
    (0 ∷ [])

-- ---- the journal

abbrev pub journal : List Entry
journal =
    arrive 0 ann
    ∷ arrive 0 bob
    ∷ start 0 bob
    ∷ work 0 bob 2 1406932606
    ∷ verdict_done 0 bob
    ∷ read 0 ann x 5
    ∷ verdict_done 0 ann
    ∷ end_commit 0 bob
    ∷ leave 0 ann
    ∷ leave 0 bob
    ∷ []

-- what this work gives
pub mixed : pos 1406932606 ≡ mix (pos 0) 2
unfolding state_after
mixed = refl

pub worked : IsWorked draft plan journal
    (pos 5 ∷ [])
    []
    23
unfolding unfold_at depth_within action_bound
worked = record {
  unfolds = record { whole = refl; same = refl };
  legal = assumption (mixed);
  complete = complete_from plan journal refl;
  well_formed = search rules;
  leaves = refl;
  taken = refl;
  bounded = refl;
}

pub kept_values : kept_value plan journal x ≡ pos 5
kept_values = refl
