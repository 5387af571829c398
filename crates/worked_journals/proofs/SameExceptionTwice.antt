-- Both roles raise one exception, for which neither has a handler: the action is undone.
--
-- The script:
--   participant ann / participant bob / object x 5 / object y 0 / graph tree / exception mid / exception left /
--   exception right / exception far / cover mid left / cover mid right / end / action duo / internal tree / use x
--   y / roles a b / body a / raise left / body b / raise left / handler a mid / put x 1 / handler b mid / put y 2
--   / end / play duo ann bob
use Rattle.std.proofs.Common.{◌≡◌, ℕ, pos, List, [], ◌∷◌, refl, codes, rules}
use Rattle.caa_base.specs.declared.written.entry.Entry.{Entry}
use Rattle.caa_base.specs.declared.written.entry.Verdict.TheVariants as verdict
use Rattle.cover_table.specs.Cover.{IsLeastCover}
use Rattle.place_plan.specs.Plans.Bound.{action_bound}
use Rattle.place_plan.specs.Drafts.DraftRules.{depth_within}
use Rattle.place_plan.specs.Plans.Places.{internal_of}
use Rattle.place_plan.specs.Plans.PlanValue.{Plan}
use Rattle.place_plan.specs.Plans.Unfolding.{unfold_at}
use Rattle.place_plan.specs.declared.drafts.draft.Draft.{Draft}
use Rattle.place_plan.specs.declared.drafts.draft_rows.AbortRow.TheVariants as abort
use Rattle.place_plan.specs.declared.drafts.draft_rows.ActionRow.{ActionRow}
use Rattle.place_plan.specs.declared.drafts.draft_rows.GraphRow.{GraphRow}
use Rattle.place_plan.specs.declared.drafts.draft_rows.RoleRow.{RoleRow}
use Rattle.place_plan.specs.declared.drafts.draft_rows.Step.TheVariants as step
use Rattle.worked_journals.proofs.Notation.{plain_graph, arrive, start, raise, resolve, verdict_undo, undo, restore_well, end_undone, leave, universal, graph, object, program, handler, role, action, played, unfolded, play, least_cover_from, complete_from, kept_value, IsWorked}

-- ---- the draft and its unfolding

abbrev pub ann : ℕ
ann = 0

abbrev pub bob : ℕ
bob = 1

abbrev pub x : ℕ
x = 0

abbrev pub y : ℕ
y = 1

abbrev pub mid : ℕ
mid = 1

abbrev pub left : ℕ
left = 2

abbrev pub right : ℕ
right = 3

abbrev pub far : ℕ
far = 4

-- in tree, mid covers left, mid covers right, and universal covers all
abbrev pub tree_graph : GraphRow
tree_graph =
    graph
    (codes "universal" ∷ codes "mid" ∷ codes "left" ∷ codes "right" ∷ codes "far" ∷ [])
    ((universal ∷ mid ∷ left ∷ right ∷ far ∷ [])
    ∷ (mid ∷ left ∷ right ∷ [])
    ∷ (left ∷ [])
    ∷ (right ∷ [])
    ∷ (far ∷ [])
    ∷ [])

abbrev pub duo_a : RoleRow
duo_a =
    role
    (codes "a")
    (program (step.Raise left ∷ []) verdict.Done)
    (handler mid (program (step.Put x (pos 1) ∷ []) verdict.Done) ∷ [])
    abort.Never

abbrev pub duo_b : RoleRow
duo_b =
    role
    (codes "b")
    (program (step.Raise left ∷ []) verdict.Done)
    (handler mid (program (step.Put y (pos 2) ∷ []) verdict.Done) ∷ [])
    abort.Never

abbrev pub duo_action : ActionRow
duo_action = record (action (codes "duo") (x ∷ y ∷ []) (duo_a ∷ duo_b ∷ []) []) { internal = 1 }

abbrev pub draft : Draft
draft =
    record {
      participants = codes "ann" ∷ codes "bob" ∷ [];
      objects = object (codes "x") 5 ∷ object (codes "y") 0 ∷ [];
      graphs = plain_graph ∷ tree_graph ∷ [];
      actions = duo_action ∷ [];
      plays = played 0 (ann ∷ bob ∷ []) ∷ [];
      drills = [];
      watches = [];
    }

abbrev pub plan : Plan
plan =
    unfolded draft
    (play 0 (ann ∷ bob ∷ []) [] ∷ [])
    (0 ∷ [])

-- ---- the journal

abbrev pub journal : List Entry
journal =
    arrive 0 ann
    ∷ arrive 0 bob
    ∷ start 0 bob
    ∷ raise 0 bob left
    ∷ raise 0 ann left
    ∷ resolve 0 bob left
    ∷ verdict_undo 0 ann
    ∷ verdict_undo 0 bob
    ∷ undo 0 ann
    ∷ restore_well 0 ann x 5
    ∷ restore_well 0 bob y 0
    ∷ end_undone 0 bob
    ∷ leave 0 ann
    ∷ leave 0 bob
    ∷ []

-- left is the least that covers everything raised
pub left_is_least : IsLeastCover (internal_of plan 0) (left ∷ left ∷ []) left
left_is_least = least_cover_from _ _ _ refl

pub worked : IsWorked draft plan journal
    (pos 5 ∷ pos 0 ∷ [])
    ((x, pos 5) ∷ (y, pos 0) ∷ [])
    26
unfolding unfold_at depth_within action_bound
worked = record {
  unfolds = record { whole = refl; same = refl };
  legal = assumption (left_is_least);
  complete = complete_from plan journal refl;
  well_formed = search rules;
  leaves = refl;
  taken = refl;
  bounded = refl;
}

pub kept_values : (kept_value plan journal x ≡ pos 5) × (kept_value plan journal y ≡ pos 0)
kept_values = (refl, refl)
