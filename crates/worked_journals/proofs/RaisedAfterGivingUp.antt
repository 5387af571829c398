-- Ann comes out of a nested action that was given up, having named nothing, and raises something by her next step.
--
-- The script:
--   participant ann / participant bob / object x 0 / graph g / exception big / exception stop / exception gone /
--   cover big stop / cover big gone / end / action inner / use x / roles p / body p / put x 5 / end /
--   action outer / internal g / use x / roles a b / nest n inner a / body a / enter n / raise gone / body b /
--   raise stop / handler a big / handler b big / end / play outer ann bob
use Rattle.std.proofs.Common.{◌≡◌, ℕ, pos, List, [], ◌∷◌, refl, codes, rules}
use Rattle.caa_base.specs.declared.written.entry.Entry.{Entry}
use Rattle.caa_base.specs.declared.written.entry.Verdict.TheVariants as verdict
use Rattle.cover_table.specs.Cover.{IsLeastCover}
use Rattle.place_plan.specs.Plans.Bound.{action_bound}
use Rattle.place_plan.specs.Drafts.DraftRules.{depth_within}
use Rattle.place_plan.specs.Plans.Places.{internal_of}
use Rattle.place_plan.specs.Plans.PlanValue.{Plan}
use Rattle.place_plan.specs.Plans.Unfolding.{unfold_at}
use Rattle.place_plan.specs.declared.drafts.draft.Draft.{Draft}
use Rattle.place_plan.specs.declared.drafts.draft_rows.AbortRow.TheVariants as abort
use Rattle.place_plan.specs.declared.drafts.draft_rows.ActionRow.{ActionRow}
use Rattle.place_plan.specs.declared.drafts.draft_rows.GraphRow.{GraphRow}
use Rattle.place_plan.specs.declared.drafts.draft_rows.NestRow.{NestRow}
use Rattle.place_plan.specs.declared.drafts.draft_rows.RoleRow.{RoleRow}
use Rattle.place_plan.specs.declared.drafts.draft_rows.Step.TheVariants as step
use Rattle.worked_journals.proofs.Notation.{plain_graph, arrive, start, write, raise, resolve, handle, verdict_done, abort as gives_up, undo, restore_well, end_commit, end_aborted, leave, universal, graph, object, program, handler, role, nest, action, played, unfolded, play, inner, least_cover_from, complete_from, kept_value, IsWorked}

-- ---- the draft and its unfolding

abbrev pub ann : ℕ
ann = 0

abbrev pub bob : ℕ
bob = 1

abbrev pub x : ℕ
x = 0

abbrev pub big : ℕ
big = 1

abbrev pub stop : ℕ
stop = 2

abbrev pub gone : ℕ
gone = 3

-- in g, big covers stop, big covers gone, and universal covers all
abbrev pub g_graph : GraphRow
g_graph =
    graph
    (codes "universal" ∷ codes "big" ∷ codes "stop" ∷ codes "gone" ∷ [])
    ((universal ∷ big ∷ stop ∷ gone ∷ [])
    ∷ (big ∷ stop ∷ gone ∷ [])
    ∷ (stop ∷ [])
    ∷ (gone ∷ [])
    ∷ [])

abbrev pub inner_p : RoleRow
inner_p = role (codes "p") (program (step.Put x (pos 5) ∷ []) verdict.Done) [] abort.Never

abbrev pub inner_action : ActionRow
inner_action = action (codes "inner") (x ∷ []) (inner_p ∷ []) []

abbrev pub outer_a : RoleRow
outer_a =
    role
    (codes "a")
    (program (step.Enter 0 ∷ step.Raise gone ∷ []) verdict.Done)
    (handler big (program [] verdict.Done) ∷ [])
    abort.Never

abbrev pub outer_b : RoleRow
outer_b =
    role
    (codes "b")
    (program (step.Raise stop ∷ []) verdict.Done)
    (handler big (program [] verdict.Done) ∷ [])
    abort.Never

abbrev pub outer_n : NestRow
outer_n = nest (codes "n") (0 ∷ []) (0 ∷ []) (universal ∷ [])

abbrev pub outer_action : ActionRow
outer_action = record (action (codes "outer") (x ∷ []) (outer_a ∷ outer_b ∷ []) (outer_n ∷ [])) { internal = 1 }

abbrev pub draft : Draft
draft =
    record {
      participants = codes "ann" ∷ codes "bob" ∷ [];
      objects = object (codes "x") 0 ∷ [];
      graphs = plain_graph ∷ g_graph ∷ [];
      actions = inner_action ∷ outer_action ∷ [];
      plays = played 1 (ann ∷ bob ∷ []) ∷ [];
      drills = [];
      watches = [];
    }

abbrev pub plan : Plan
plan =
    unfolded draft
    (play 1 (ann ∷ bob ∷ []) ((1 ∷ []) ∷ [])
    ∷ inner (0 ∷ []) 0 0 (ann ∷ []) [] ∷ [])
    (0 ∷ [])

-- ---- the journal

abbrev pub journal : List Entry
journal =
    arrive 0 ann
    ∷ arrive 0 bob
    ∷ start 0 ann
    ∷ arrive 1 ann
    ∷ start 1 ann
    ∷ write 1 ann x 5
    ∷ raise 0 bob stop
    ∷ gives_up 1 ann
    ∷ undo 1 ann
    ∷ restore_well 1 ann x 0
    ∷ end_aborted 1 ann
    ∷ leave 1 ann
    ∷ raise 0 ann gone
    ∷ resolve 0 ann big
    ∷ handle 0 ann big
    ∷ handle 0 bob big
    ∷ verdict_done 0 ann
    ∷ verdict_done 0 bob
    ∷ end_commit 0 ann
    ∷ leave 0 ann
    ∷ leave 0 bob
    ∷ []

-- big is the least that covers everything raised
pub big_is_least : IsLeastCover (internal_of plan 0) (gone ∷ stop ∷ []) big
big_is_least = least_cover_from _ _ _ refl

pub worked : IsWorked draft plan journal
    (pos 0 ∷ [])
    ((x, pos 5) ∷ (x, pos 0) ∷ [])
    39
unfolding unfold_at depth_within action_bound
worked = record {
  unfolds = record { whole = refl; same = refl };
  legal = assumption (big_is_least);
  complete = complete_from plan journal refl;
  well_formed = search rules;
  leaves = refl;
  taken = refl;
  bounded = refl;
}

pub kept_values : kept_value plan journal x ≡ pos 0
kept_values = refl
