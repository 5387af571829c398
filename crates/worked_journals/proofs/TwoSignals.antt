-- Two roles of the inner action signal: it ends with what covers both; a handler of the outer one raises, and all is undone.
--
-- The script:
--   participant ann / participant bob / object x 0 / graph faces / exception both / exception weak / exception
--   late / cover both weak / cover both late / end / graph g / exception poor / end / action inner / interface
--   faces / use x / roles p q / body p / put x 1 / signal weak / body q / signal late / end / action outer /
--   internal g / use x / roles a b / nest n inner a b / map n both poor / body a / enter n / body b / enter n /
--   handler a poor / handler b poor / read x / raise poor / end / play outer ann bob
use Rattle.std.proofs.Common.{◌≡◌, ℕ, pos, List, [], ◌∷◌, refl, codes, rules}
use Rattle.caa_base.specs.declared.written.entry.Entry.{Entry}
use Rattle.caa_base.specs.declared.written.entry.Verdict.TheVariants as verdict
use Rattle.cover_table.specs.Cover.{IsLeastCover}
use Rattle.place_plan.specs.Plans.Bound.{action_bound}
use Rattle.place_plan.specs.Drafts.DraftRules.{depth_within}
use Rattle.place_plan.specs.Plans.Places.{internal_of, interface_of}
use Rattle.place_plan.specs.Plans.PlanValue.{Plan}
use Rattle.place_plan.specs.Plans.Unfolding.{unfold_at}
use Rattle.place_plan.specs.declared.drafts.draft.Draft.{Draft}
use Rattle.place_plan.specs.declared.drafts.draft_rows.AbortRow.TheVariants as abort
use Rattle.place_plan.specs.declared.drafts.draft_rows.ActionRow.{ActionRow}
use Rattle.place_plan.specs.declared.drafts.draft_rows.GraphRow.{GraphRow}
use Rattle.place_plan.specs.declared.drafts.draft_rows.NestRow.{NestRow}
use Rattle.place_plan.specs.declared.drafts.draft_rows.RoleRow.{RoleRow}
use Rattle.place_plan.specs.declared.drafts.draft_rows.Step.TheVariants as step
use Rattle.worked_journals.proofs.Notation.{plain_graph, arrive, start, read, write, resolve, handle, verdict_done, verdict_signal, verdict_undo, undo, restore_well, end_signal, end_undone, leave, leave_carrying, universal, graph, object, program, handler, role, nest, action, played, unfolded, play, inner, least_cover_from, complete_from, kept_value, IsWorked}

-- ---- the draft and its unfolding

abbrev pub ann : ℕ
ann = 0

abbrev pub bob : ℕ
bob = 1

abbrev pub x : ℕ
x = 0

abbrev pub both : ℕ
both = 1

abbrev pub weak : ℕ
weak = 2

abbrev pub late : ℕ
late = 3

-- in faces, both covers weak, both covers late, and universal covers all
abbrev pub faces_graph : GraphRow
faces_graph =
    graph
    (codes "universal" ∷ codes "both" ∷ codes "weak" ∷ codes "late" ∷ [])
    ((universal ∷ both ∷ weak ∷ late ∷ [])
    ∷ (both ∷ weak ∷ late ∷ [])
    ∷ (weak ∷ [])
    ∷ (late ∷ [])
    ∷ [])

abbrev pub poor : ℕ
poor = 1

-- in g, universal covers all
abbrev pub g_graph : GraphRow
g_graph =
    graph
    (codes "universal" ∷ codes "poor" ∷ [])
    ((universal ∷ poor ∷ [])
    ∷ (poor ∷ [])
    ∷ [])

abbrev pub inner_p : RoleRow
inner_p = role (codes "p") (program (step.Put x (pos 1) ∷ []) (verdict.Signal weak)) [] abort.Never

abbrev pub inner_q : RoleRow
inner_q = role (codes "q") (program [] (verdict.Signal late)) [] abort.Never

abbrev pub inner_action : ActionRow
inner_action = record (action (codes "inner") (x ∷ []) (inner_p ∷ inner_q ∷ []) []) { interface = 1 }

abbrev pub outer_a : RoleRow
outer_a =
    role
    (codes "a")
    (program (step.Enter 0 ∷ []) verdict.Done)
    (handler poor (program [] verdict.Done) ∷ [])
    abort.Never

abbrev pub outer_b : RoleRow
outer_b =
    role
    (codes "b")
    (program (step.Enter 0 ∷ []) verdict.Done)
    (handler poor (program (step.Read x ∷ step.Raise poor ∷ []) verdict.Done) ∷ [])
    abort.Never

abbrev pub outer_n : NestRow
outer_n = nest (codes "n") (0 ∷ []) (0 ∷ 1 ∷ []) (universal ∷ poor ∷ universal ∷ universal ∷ [])

abbrev pub outer_action : ActionRow
outer_action = record (action (codes "outer") (x ∷ []) (outer_a ∷ outer_b ∷ []) (outer_n ∷ [])) { internal = 2 }

abbrev pub draft : Draft
draft =
    record {
      participants = codes "ann" ∷ codes "bob" ∷ [];
      objects = object (codes "x") 0 ∷ [];
      graphs = plain_graph ∷ faces_graph ∷ g_graph ∷ [];
      actions = inner_action ∷ outer_action ∷ [];
      plays = played 1 (ann ∷ bob ∷ []) ∷ [];
      drills = [];
      watches = [];
    }

abbrev pub plan : Plan
plan =
    unfolded draft
    (play 1 (ann ∷ bob ∷ []) ((1 ∷ []) ∷ [])
    ∷ inner (0 ∷ []) 0 0 (ann ∷ bob ∷ []) [] ∷ [])
    (0 ∷ [])

-- ---- the journal

abbrev pub journal : List Entry
journal =
    arrive 0 ann
    ∷ arrive 0 bob
    ∷ start 0 ann
    ∷ arrive 1 ann
    ∷ arrive 1 bob
    ∷ start 1 bob
    ∷ write 1 ann x 1
    ∷ verdict_signal 1 bob late
    ∷ verdict_signal 1 ann weak
    ∷ end_signal 1 ann both
    ∷ leave_carrying 1 ann poor
    ∷ leave_carrying 1 bob poor
    ∷ resolve 0 bob poor
    ∷ handle 0 ann poor
    ∷ handle 0 bob poor
    ∷ verdict_done 0 ann
    ∷ read 0 bob x 1
    ∷ verdict_undo 0 bob
    ∷ undo 0 bob
    ∷ restore_well 0 bob x 0
    ∷ end_undone 0 ann
    ∷ leave 0 ann
    ∷ leave 0 bob
    ∷ []

-- both is the least that covers everything signalled
pub both_is_least : IsLeastCover (interface_of plan 1) (weak ∷ late ∷ []) both
both_is_least = least_cover_from _ _ _ refl

-- poor is the least that covers everything raised
pub poor_is_least : IsLeastCover (internal_of plan 0) (poor ∷ poor ∷ []) poor
poor_is_least = least_cover_from _ _ _ refl

pub worked : IsWorked draft plan journal
    (pos 0 ∷ [])
    ((x, pos 1) ∷ (x, pos 0) ∷ [])
    50
unfolding unfold_at depth_within action_bound
worked = record {
  unfolds = record { whole = refl; same = refl };
  legal = assumption (both_is_least, poor_is_least);
  complete = complete_from plan journal refl;
  well_formed = search rules;
  leaves = refl;
  taken = refl;
  bounded = refl;
}

pub kept_values : kept_value plan journal x ≡ pos 0
kept_values = refl
