-- The outermost action raises while two levels stand inside: both are aborted, the innermost first.
--
-- The script:
--   participant ann / participant bob / object x 0 / graph g / exception big / exception stop / exception bent /
--   cover big stop / cover big bent / end / graph f / exception bad / end / action deep / interface f / use x /
--   roles d / abort d bad / body d / put x 3 / end / action mid / interface f / use x / roles m / nest k deep m /
--   abort m bad / body m / enter k / end / action outer / internal g / use x / roles a b / nest n mid a / map n
--   bad bent / body a / enter n / body b / raise stop / handler a big / handler b big / end / play outer ann bob
use Rattle.std.proofs.Common.{◌≡◌, ℕ, pos, List, [], ◌∷◌, refl, codes, rules}
use Rattle.caa_base.specs.declared.written.entry.Entry.{Entry}
use Rattle.caa_base.specs.declared.written.entry.Verdict.TheVariants as verdict
use Rattle.cover_table.specs.Cover.{IsLeastCover}
use Rattle.place_plan.specs.Plans.Bound.{action_bound}
use Rattle.place_plan.specs.Drafts.DraftRules.{depth_within}
use Rattle.place_plan.specs.Plans.Places.{internal_of}
use Rattle.place_plan.specs.Plans.PlanValue.{Plan}
use Rattle.place_plan.specs.Plans.Unfolding.{unfold_at}
use Rattle.place_plan.specs.declared.drafts.draft.Draft.{Draft}
use Rattle.place_plan.specs.declared.drafts.draft_rows.AbortRow.TheVariants as abort
use Rattle.place_plan.specs.declared.drafts.draft_rows.ActionRow.{ActionRow}
use Rattle.place_plan.specs.declared.drafts.draft_rows.GraphRow.{GraphRow}
use Rattle.place_plan.specs.declared.drafts.draft_rows.NestRow.{NestRow}
use Rattle.place_plan.specs.declared.drafts.draft_rows.RoleRow.{RoleRow}
use Rattle.place_plan.specs.declared.drafts.draft_rows.Step.TheVariants as step
use Rattle.worked_journals.proofs.Notation.{plain_graph, arrive, start, write, raise, resolve, handle, verdict_done, abort_naming, undo, restore_well, end_commit, end_aborted, leave, leave_carrying, universal, graph, object, program, handler, role, nest, action, played, unfolded, play, inner, least_cover_from, complete_from, kept_value, IsWorked}

-- ---- the draft and its unfolding

abbrev pub ann : ℕ
ann = 0

abbrev pub bob : ℕ
bob = 1

abbrev pub x : ℕ
x = 0

abbrev pub big : ℕ
big = 1

abbrev pub stop : ℕ
stop = 2

abbrev pub bent : ℕ
bent = 3

-- in g, big covers stop, big covers bent, and universal covers all
abbrev pub g_graph : GraphRow
g_graph =
    graph
    (codes "universal" ∷ codes "big" ∷ codes "stop" ∷ codes "bent" ∷ [])
    ((universal ∷ big ∷ stop ∷ bent ∷ [])
    ∷ (big ∷ stop ∷ bent ∷ [])
    ∷ (stop ∷ [])
    ∷ (bent ∷ [])
    ∷ [])

abbrev pub bad : ℕ
bad = 1

-- in f, universal covers all
abbrev pub f_graph : GraphRow
f_graph =
    graph
    (codes "universal" ∷ codes "bad" ∷ [])
    ((universal ∷ bad ∷ [])
    ∷ (bad ∷ [])
    ∷ [])

abbrev pub deep_d : RoleRow
deep_d = role (codes "d") (program (step.Put x (pos 3) ∷ []) verdict.Done) [] (abort.Always bad)

abbrev pub deep_action : ActionRow
deep_action = record (action (codes "deep") (x ∷ []) (deep_d ∷ []) []) { interface = 2 }

abbrev pub mid_m : RoleRow
mid_m = role (codes "m") (program (step.Enter 0 ∷ []) verdict.Done) [] (abort.Always bad)

abbrev pub mid_k : NestRow
mid_k = nest (codes "k") (0 ∷ []) (0 ∷ []) (universal ∷ universal ∷ [])

abbrev pub mid_action : ActionRow
mid_action = record (action (codes "mid") (x ∷ []) (mid_m ∷ []) (mid_k ∷ [])) { interface = 2 }

abbrev pub outer_a : RoleRow
outer_a =
    role
    (codes "a")
    (program (step.Enter 0 ∷ []) verdict.Done)
    (handler big (program [] verdict.Done) ∷ [])
    abort.Never

abbrev pub outer_b : RoleRow
outer_b =
    role
    (codes "b")
    (program (step.Raise stop ∷ []) verdict.Done)
    (handler big (program [] verdict.Done) ∷ [])
    abort.Never

abbrev pub outer_n : NestRow
outer_n = nest (codes "n") (1 ∷ []) (0 ∷ []) (universal ∷ bent ∷ [])

abbrev pub outer_action : ActionRow
outer_action = record (action (codes "outer") (x ∷ []) (outer_a ∷ outer_b ∷ []) (outer_n ∷ [])) { internal = 1 }

abbrev pub draft : Draft
draft =
    record {
      participants = codes "ann" ∷ codes "bob" ∷ [];
      objects = object (codes "x") 0 ∷ [];
      graphs = plain_graph ∷ g_graph ∷ f_graph ∷ [];
      actions = deep_action ∷ mid_action ∷ outer_action ∷ [];
      plays = played 2 (ann ∷ bob ∷ []) ∷ [];
      drills = [];
      watches = [];
    }

abbrev pub plan : Plan
plan =
    unfolded draft
    (play 2 (ann ∷ bob ∷ []) ((1 ∷ []) ∷ [])
    ∷ inner (0 ∷ []) 0 1 (ann ∷ []) ((2 ∷ []) ∷ [])
    ∷ inner (1 ∷ 0 ∷ []) 0 0 (ann ∷ []) [] ∷ [])
    (0 ∷ [])

-- ---- the journal

abbrev pub journal : List Entry
journal =
    arrive 0 ann
    ∷ arrive 0 bob
    ∷ start 0 ann
    ∷ arrive 1 ann
    ∷ start 1 ann
    ∷ arrive 2 ann
    ∷ start 2 ann
    ∷ write 2 ann x 3
    ∷ raise 0 bob stop
    ∷ abort_naming 2 ann bad
    ∷ undo 2 ann
    ∷ restore_well 2 ann x 0
    ∷ end_aborted 2 ann
    ∷ leave 2 ann
    ∷ abort_naming 1 ann bad
    ∷ undo 1 ann
    ∷ restore_well 1 ann x 0
    ∷ end_aborted 1 ann
    ∷ leave_carrying 1 ann bent
    ∷ resolve 0 ann big
    ∷ handle 0 ann big
    ∷ handle 0 bob big
    ∷ verdict_done 0 ann
    ∷ verdict_done 0 bob
    ∷ end_commit 0 bob
    ∷ leave 0 ann
    ∷ leave 0 bob
    ∷ []

-- big is the least that covers everything raised
pub big_is_least : IsLeastCover (internal_of plan 0) (bent ∷ stop ∷ []) big
big_is_least = least_cover_from _ _ _ refl

pub worked : IsWorked draft plan journal
    (pos 0 ∷ [])
    ((x, pos 3) ∷ (x, pos 0) ∷ (x, pos 0) ∷ [])
    51
unfolding unfold_at depth_within action_bound
worked = record {
  unfolds = record { whole = refl; same = refl };
  legal = assumption (big_is_least);
  complete = complete_from plan journal refl;
  well_formed = search rules;
  leaves = refl;
  taken = refl;
  bounded = refl;
}

pub kept_values : kept_value plan journal x ≡ pos 0
kept_values = refl
