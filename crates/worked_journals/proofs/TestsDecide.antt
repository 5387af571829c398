-- Checks that are not met are passed over, and a test on what was read decides what an abort names.
--
-- The script:
--   participant ann / participant bob / object x 3 / graph g / exception big / exception stop / exception bent /
--   cover big stop / cover big bent / end / graph f / exception bad / end / action inner / interface f / use x /
--   roles p / abort p above 2 bad / body p / read x / check above 3 universal / check below 3 universal / end /
--   action outer / internal g / use x / roles a b / nest n inner a / map n bad bent / body a / enter n / body b /
--   raise stop / handler a big / handler b big / end / play outer ann bob
use Rattle.std.proofs.Common.{◌≡◌, ℕ, pos, List, [], ◌∷◌, refl, codes, rules}
use Rattle.caa_base.specs.declared.written.entry.Entry.{Entry}
use Rattle.caa_base.specs.declared.written.entry.Test.TheVariants.{Below, Above}
use Rattle.caa_base.specs.declared.written.entry.Verdict.TheVariants as verdict
use Rattle.cover_table.specs.Cover.{IsLeastCover}
use Rattle.place_plan.specs.Plans.Bound.{action_bound}
use Rattle.place_plan.specs.Drafts.DraftRules.{depth_within}
use Rattle.place_plan.specs.Plans.Places.{internal_of}
use Rattle.place_plan.specs.Plans.PlanValue.{Plan}
use Rattle.place_plan.specs.Plans.Unfolding.{unfold_at}
use Rattle.place_plan.specs.declared.drafts.draft.Draft.{Draft}
use Rattle.place_plan.specs.declared.drafts.draft_rows.AbortRow.TheVariants as abort
use Rattle.place_plan.specs.declared.drafts.draft_rows.ActionRow.{ActionRow}
use Rattle.place_plan.specs.declared.drafts.draft_rows.GraphRow.{GraphRow}
use Rattle.place_plan.specs.declared.drafts.draft_rows.NestRow.{NestRow}
use Rattle.place_plan.specs.declared.drafts.draft_rows.RoleRow.{RoleRow}
use Rattle.place_plan.specs.declared.drafts.draft_rows.Step.TheVariants as step
use Rattle.worked_journals.proofs.Notation.{plain_graph, arrive, start, read, check, raise, resolve, handle, verdict_done, abort_naming, undo, restore_well, end_commit, end_aborted, leave, leave_carrying, universal, graph, object, program, handler, role, nest, action, played, unfolded, play, inner, least_cover_from, complete_from, kept_value, IsWorked}

-- ---- the draft and its unfolding

abbrev pub ann : ℕ
ann = 0

abbrev pub bob : ℕ
bob = 1

abbrev pub x : ℕ
x = 0

abbrev pub big : ℕ
big = 1

abbrev pub stop : ℕ
stop = 2

abbrev pub bent : ℕ
bent = 3

-- in g, big covers stop, big covers bent, and universal covers all
abbrev pub g_graph : GraphRow
g_graph =
    graph
    (codes "universal" ∷ codes "big" ∷ codes "stop" ∷ codes "bent" ∷ [])
    ((universal ∷ big ∷ stop ∷ bent ∷ [])
    ∷ (big ∷ stop ∷ bent ∷ [])
    ∷ (stop ∷ [])
    ∷ (bent ∷ [])
    ∷ [])

abbrev pub bad : ℕ
bad = 1

-- in f, universal covers all
abbrev pub f_graph : GraphRow
f_graph =
    graph
    (codes "universal" ∷ codes "bad" ∷ [])
    ((universal ∷ bad ∷ [])
    ∷ (bad ∷ [])
    ∷ [])

abbrev pub inner_p : RoleRow
inner_p =
    role
    (codes "p")
    (program (step.Read x ∷ step.Check Above (pos 3) universal ∷ step.Check Below (pos 3) universal ∷ []) verdict.Done)
    []
    (abort.Where Above (pos 2) bad)

abbrev pub inner_action : ActionRow
inner_action = record (action (codes "inner") (x ∷ []) (inner_p ∷ []) []) { interface = 2 }

abbrev pub outer_a : RoleRow
outer_a =
    role
    (codes "a")
    (program (step.Enter 0 ∷ []) verdict.Done)
    (handler big (program [] verdict.Done) ∷ [])
    abort.Never

abbrev pub outer_b : RoleRow
outer_b =
    role
    (codes "b")
    (program (step.Raise stop ∷ []) verdict.Done)
    (handler big (program [] verdict.Done) ∷ [])
    abort.Never

abbrev pub outer_n : NestRow
outer_n = nest (codes "n") (0 ∷ []) (0 ∷ []) (universal ∷ bent ∷ [])

abbrev pub outer_action : ActionRow
outer_action = record (action (codes "outer") (x ∷ []) (outer_a ∷ outer_b ∷ []) (outer_n ∷ [])) { internal = 1 }

abbrev pub draft : Draft
draft =
    record {
      participants = codes "ann" ∷ codes "bob" ∷ [];
      objects = object (codes "x") 3 ∷ [];
      graphs = plain_graph ∷ g_graph ∷ f_graph ∷ [];
      actions = inner_action ∷ outer_action ∷ [];
      plays = played 1 (ann ∷ bob ∷ []) ∷ [];
      drills = [];
      watches = [];
    }

abbrev pub plan : Plan
plan =
    unfolded draft
    (play 1 (ann ∷ bob ∷ []) ((1 ∷ []) ∷ [])
    ∷ inner (0 ∷ []) 0 0 (ann ∷ []) [] ∷ [])
    (0 ∷ [])

-- ---- the journal

abbrev pub journal : List Entry
journal =
    arrive 0 ann
    ∷ arrive 0 bob
    ∷ start 0 ann
    ∷ arrive 1 ann
    ∷ start 1 ann
    ∷ read 1 ann x 3
    ∷ check 1 ann
    ∷ check 1 ann
    ∷ raise 0 bob stop
    ∷ abort_naming 1 ann bad
    ∷ undo 1 ann
    ∷ restore_well 1 ann x 3
    ∷ end_aborted 1 ann
    ∷ leave_carrying 1 ann bent
    ∷ resolve 0 ann big
    ∷ handle 0 ann big
    ∷ handle 0 bob big
    ∷ verdict_done 0 ann
    ∷ verdict_done 0 bob
    ∷ end_commit 0 bob
    ∷ leave 0 ann
    ∷ leave 0 bob
    ∷ []

-- big is the least that covers everything raised
pub big_is_least : IsLeastCover (internal_of plan 0) (bent ∷ stop ∷ []) big
big_is_least = least_cover_from _ _ _ refl

pub worked : IsWorked draft plan journal
    (pos 3 ∷ [])
    ((x, pos 3) ∷ [])
    39
unfolding unfold_at depth_within action_bound
worked = record {
  unfolds = record { whole = refl; same = refl };
  legal = assumption (big_is_least);
  complete = complete_from plan journal refl;
  well_formed = search rules;
  leaves = refl;
  taken = refl;
  bounded = refl;
}

pub kept_values : kept_value plan journal x ≡ pos 3
kept_values = refl
