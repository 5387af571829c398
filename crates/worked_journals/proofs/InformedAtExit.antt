-- A role is informed after its verdict, and handles what the other one raised; the action ends with a signal.
--
-- The script:
--   participant ann / participant bob / object x 0 / object y 0 / graph tree / exception left / end / graph faces
--   / exception weak / end / action duo / internal tree / interface faces / use x y / roles a b / body a / put x 1
--   / body b / read x / check above 0 left / handler a left / handler b left / put y 9 / signal weak / end / play
--   duo ann bob
use Rattle.std.proofs.Common.{◌≡◌, ℕ, pos, List, [], ◌∷◌, refl, codes, rules}
use Rattle.caa_base.specs.declared.written.entry.Entry.{Entry}
use Rattle.caa_base.specs.declared.written.entry.Test.TheVariants.{Above}
use Rattle.caa_base.specs.declared.written.entry.Verdict.TheVariants as verdict
use Rattle.cover_table.specs.Cover.{IsLeastCover}
use Rattle.place_plan.specs.Plans.Bound.{action_bound}
use Rattle.place_plan.specs.Drafts.DraftRules.{depth_within}
use Rattle.place_plan.specs.Plans.Places.{internal_of, interface_of}
use Rattle.place_plan.specs.Plans.PlanValue.{Plan}
use Rattle.place_plan.specs.Plans.Unfolding.{unfold_at}
use Rattle.place_plan.specs.declared.drafts.draft.Draft.{Draft}
use Rattle.place_plan.specs.declared.drafts.draft_rows.AbortRow.TheVariants as abort
use Rattle.place_plan.specs.declared.drafts.draft_rows.ActionRow.{ActionRow}
use Rattle.place_plan.specs.declared.drafts.draft_rows.GraphRow.{GraphRow}
use Rattle.place_plan.specs.declared.drafts.draft_rows.RoleRow.{RoleRow}
use Rattle.place_plan.specs.declared.drafts.draft_rows.Step.TheVariants as step
use Rattle.worked_journals.proofs.Notation.{plain_graph, arrive, start, read, write, raise, inform, resolve, handle, verdict_done, verdict_signal, end_signal, leave, universal, graph, object, program, handler, role, action, played, unfolded, play, least_cover_from, complete_from, kept_value, IsWorked}

-- ---- the draft and its unfolding

abbrev pub ann : ℕ
ann = 0

abbrev pub bob : ℕ
bob = 1

abbrev pub x : ℕ
x = 0

abbrev pub y : ℕ
y = 1

abbrev pub left : ℕ
left = 1

-- in tree, universal covers all
abbrev pub tree_graph : GraphRow
tree_graph =
    graph
    (codes "universal" ∷ codes "left" ∷ [])
    ((universal ∷ left ∷ [])
    ∷ (left ∷ [])
    ∷ [])

abbrev pub weak : ℕ
weak = 1

-- in faces, universal covers all
abbrev pub faces_graph : GraphRow
faces_graph =
    graph
    (codes "universal" ∷ codes "weak" ∷ [])
    ((universal ∷ weak ∷ [])
    ∷ (weak ∷ [])
    ∷ [])

abbrev pub duo_a : RoleRow
duo_a =
    role
    (codes "a")
    (program (step.Put x (pos 1) ∷ []) verdict.Done)
    (handler left (program [] verdict.Done) ∷ [])
    abort.Never

abbrev pub duo_b : RoleRow
duo_b =
    role
    (codes "b")
    (program (step.Read x ∷ step.Check Above (pos 0) left ∷ []) verdict.Done)
    (handler left (program (step.Put y (pos 9) ∷ []) (verdict.Signal weak)) ∷ [])
    abort.Never

abbrev pub duo_action : ActionRow
duo_action = record (action (codes "duo") (x ∷ y ∷ []) (duo_a ∷ duo_b ∷ []) []) { internal = 1; interface = 2 }

abbrev pub draft : Draft
draft =
    record {
      participants = codes "ann" ∷ codes "bob" ∷ [];
      objects = object (codes "x") 0 ∷ object (codes "y") 0 ∷ [];
      graphs = plain_graph ∷ tree_graph ∷ faces_graph ∷ [];
      actions = duo_action ∷ [];
      plays = played 0 (ann ∷ bob ∷ []) ∷ [];
      drills = [];
      watches = [];
    }

abbrev pub plan : Plan
plan =
    unfolded draft
    (play 0 (ann ∷ bob ∷ []) [] ∷ [])
    (0 ∷ [])

-- ---- the journal

abbrev pub journal : List Entry
journal =
    arrive 0 ann
    ∷ arrive 0 bob
    ∷ start 0 ann
    ∷ write 0 ann x 1
    ∷ verdict_done 0 ann
    ∷ read 0 bob x 1
    ∷ raise 0 bob left
    ∷ inform 0 ann
    ∷ resolve 0 ann left
    ∷ handle 0 ann left
    ∷ handle 0 bob left
    ∷ verdict_done 0 ann
    ∷ write 0 bob y 9
    ∷ verdict_signal 0 bob weak
    ∷ end_signal 0 bob weak
    ∷ leave 0 ann
    ∷ leave 0 bob
    ∷ []

-- left is the least that covers everything raised
pub left_is_least : IsLeastCover (internal_of plan 0) (left ∷ []) left
left_is_least = least_cover_from _ _ _ refl

-- weak is the least that covers everything signalled
pub weak_is_least : IsLeastCover (interface_of plan 0) (weak ∷ []) weak
weak_is_least = least_cover_from _ _ _ refl

pub worked : IsWorked draft plan journal
    (pos 1 ∷ pos 9 ∷ [])
    ((x, pos 1) ∷ (y, pos 9) ∷ [])
    28
unfolding unfold_at depth_within action_bound
worked = record {
  unfolds = record { whole = refl; same = refl };
  legal = assumption (left_is_least, weak_is_least);
  complete = complete_from plan journal refl;
  well_formed = search rules;
  leaves = refl;
  taken = refl;
  bounded = refl;
}

pub kept_values : (kept_value plan journal x ≡ pos 1) × (kept_value plan journal y ≡ pos 9)
kept_values = (refl, refl)
