-- Two roles that write one object each: the action commits.
--
-- The script:
--   participant ann / participant bob / object x 5 / object y 0 / action swap / use x y / roles left right / body
--   left / read x / add x 1 / body right / put y 7 / end / play swap ann bob
use Rattle.std.proofs.Common.{◌≡◌, ℕ, pos, List, [], ◌∷◌, refl, codes, rules}
use Rattle.caa_base.specs.declared.written.entry.Entry.{Entry}
use Rattle.caa_base.specs.declared.written.entry.Verdict.TheVariants as verdict
use Rattle.place_plan.specs.Plans.Bound.{action_bound}
use Rattle.place_plan.specs.Drafts.DraftRules.{depth_within}
use Rattle.place_plan.specs.Plans.PlanValue.{Plan}
use Rattle.place_plan.specs.Plans.Unfolding.{unfold_at}
use Rattle.place_plan.specs.declared.drafts.draft.Draft.{Draft}
use Rattle.place_plan.specs.declared.drafts.draft_rows.AbortRow.TheVariants as abort
use Rattle.place_plan.specs.declared.drafts.draft_rows.ActionRow.{ActionRow}
use Rattle.place_plan.specs.declared.drafts.draft_rows.RoleRow.{RoleRow}
use Rattle.place_plan.specs.declared.drafts.draft_rows.Step.TheVariants as step
use Rattle.worked_journals.proofs.Notation.{plain_graph, arrive, start, read, write, verdict_done, end_commit, leave, object, program, role, action, played, unfolded, play, complete_from, kept_value, IsWorked}

-- ---- the draft and its unfolding

abbrev pub ann : ℕ
ann = 0

abbrev pub bob : ℕ
bob = 1

abbrev pub x : ℕ
x = 0

abbrev pub y : ℕ
y = 1

abbrev pub swap_left : RoleRow
swap_left = role (codes "left") (program (step.Read x ∷ step.Add x (pos 1) ∷ []) verdict.Done) [] abort.Never

abbrev pub swap_right : RoleRow
swap_right = role (codes "right") (program (step.Put y (pos 7) ∷ []) verdict.Done) [] abort.Never

abbrev pub swap_action : ActionRow
swap_action = action (codes "swap") (x ∷ y ∷ []) (swap_left ∷ swap_right ∷ []) []

abbrev pub draft : Draft
draft =
    record {
      participants = codes "ann" ∷ codes "bob" ∷ [];
      objects = object (codes "x") 5 ∷ object (codes "y") 0 ∷ [];
      graphs = plain_graph ∷ [];
      actions = swap_action ∷ [];
      plays = played 0 (ann ∷ bob ∷ []) ∷ [];
      drills = [];
      watches = [];
    }

abbrev pub plan : Plan
plan =
    unfolded draft
    (play 0 (ann ∷ bob ∷ []) [] ∷ [])
    (0 ∷ [])

-- ---- the journal

abbrev pub journal : List Entry
journal =
    arrive 0 ann
    ∷ arrive 0 bob
    ∷ start 0 bob
    ∷ write 0 bob y 7
    ∷ verdict_done 0 bob
    ∷ read 0 ann x 5
    ∷ write 0 ann x 6
    ∷ verdict_done 0 ann
    ∷ end_commit 0 ann
    ∷ leave 0 ann
    ∷ leave 0 bob
    ∷ []

pub worked : IsWorked draft plan journal
    (pos 6 ∷ pos 7 ∷ [])
    ((y, pos 7) ∷ (x, pos 6) ∷ [])
    26
unfolding unfold_at depth_within action_bound
worked = record {
  unfolds = record { whole = refl; same = refl };
  legal = assumption;
  complete = complete_from plan journal refl;
  well_formed = search rules;
  leaves = refl;
  taken = refl;
  bounded = refl;
}

pub kept_values : (kept_value plan journal x ≡ pos 6) × (kept_value plan journal y ≡ pos 7)
kept_values = (refl, refl)
