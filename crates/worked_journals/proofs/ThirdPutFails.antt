-- The device refuses the third put: it raises the fault exception, which is handled.
--
-- The script:
--   participant ann / object x 0 / drill x 3 / graph g / exception broken / end / action tri / internal g / fault
--   broken / use x / roles r / body r / put x 1 / put x 2 / put x 3 / handler r broken / put x 4 / end / play tri
--   ann
use Rattle.std.proofs.Common.{◌≡◌, ℕ, pos, List, [], ◌∷◌, reverse, refl, codes, rules}
use Rattle.caa_base.specs.declared.written.entry.Entry.{Entry}
use Rattle.caa_base.specs.declared.written.entry.Verdict.TheVariants as verdict
use Rattle.cover_table.specs.Cover.{IsLeastCover}
use Rattle.place_plan.specs.Plans.Bound.{action_bound}
use Rattle.place_plan.specs.Drafts.DraftRules.{depth_within}
use Rattle.place_plan.specs.RulesOfJournals.Journals.{committed_value}
use Rattle.place_plan.specs.Plans.Places.{internal_of}
use Rattle.place_plan.specs.Plans.PlanValue.{Plan}
use Rattle.place_plan.specs.Plans.Unfolding.{unfold_at}
use Rattle.place_plan.specs.declared.drafts.draft.Draft.{Draft}
use Rattle.place_plan.specs.declared.drafts.draft_rows.AbortRow.TheVariants as abort
use Rattle.place_plan.specs.declared.drafts.draft_rows.ActionRow.{ActionRow}
use Rattle.place_plan.specs.declared.drafts.draft_rows.GraphRow.{GraphRow}
use Rattle.place_plan.specs.declared.drafts.draft_rows.RoleRow.{RoleRow}
use Rattle.place_plan.specs.declared.drafts.draft_rows.Step.TheVariants as step
use Rattle.worked_journals.proofs.Notation.{plain_graph, arrive, start, write, put_fault, resolve, handle, verdict_done, end_commit, leave, universal, graph, object, program, handler, role, action, drill, played, unfolded, play, least_cover_from, complete_from, kept_value, IsWorked}

-- ---- the draft and its unfolding

abbrev pub ann : ℕ
ann = 0

abbrev pub x : ℕ
x = 0

abbrev pub broken : ℕ
broken = 1

-- in g, universal covers all
abbrev pub g_graph : GraphRow
g_graph =
    graph
    (codes "universal" ∷ codes "broken" ∷ [])
    ((universal ∷ broken ∷ [])
    ∷ (broken ∷ [])
    ∷ [])

abbrev pub tri_r : RoleRow
tri_r =
    role
    (codes "r")
    (program (step.Put x (pos 1) ∷ step.Put x (pos 2) ∷ step.Put x (pos 3) ∷ []) verdict.Done)
    (handler broken (program (step.Put x (pos 4) ∷ []) verdict.Done) ∷ [])
    abort.Never

abbrev pub tri_action : ActionRow
tri_action = record (action (codes "tri") (x ∷ []) (tri_r ∷ []) []) { internal = 1; fault = broken }

abbrev pub draft : Draft
draft =
    record {
      participants = codes "ann" ∷ [];
      objects = object (codes "x") 0 ∷ [];
      graphs = plain_graph ∷ g_graph ∷ [];
      actions = tri_action ∷ [];
      plays = played 0 (ann ∷ []) ∷ [];
      drills = drill x 3 ∷ [];
      watches = [];
    }

abbrev pub plan : Plan
plan =
    unfolded draft
    (play 0 (ann ∷ []) [] ∷ [])
    (0 ∷ [])

-- ---- the journal

abbrev pub journal : List Entry
journal =
    arrive 0 ann
    ∷ start 0 ann
    ∷ write 0 ann x 1
    ∷ write 0 ann x 2
    ∷ put_fault 0 ann x 3
    ∷ resolve 0 ann broken
    ∷ handle 0 ann broken
    ∷ write 0 ann x 4
    ∷ verdict_done 0 ann
    ∷ end_commit 0 ann
    ∷ leave 0 ann
    ∷ []

-- broken is the least that covers everything raised
pub broken_is_least : IsLeastCover (internal_of plan 0) (broken ∷ []) broken
broken_is_least = least_cover_from _ _ _ refl

pub worked : IsWorked draft plan journal
    (pos 4 ∷ [])
    ((x, pos 1) ∷ (x, pos 2) ∷ (x, pos 4) ∷ [])
    17
unfolding unfold_at depth_within action_bound
worked = record {
  unfolds = record { whole = refl; same = refl };
  legal = assumption (broken_is_least);
  complete = complete_from plan journal refl;
  well_formed = search rules;
  leaves = refl;
  taken = refl;
  bounded = refl;
}

pub kept_values : kept_value plan journal x ≡ pos 4
kept_values = refl

-- what the object holds by none, and by the one play that ended
pub committed_values : (committed_value plan (reverse journal) 0 x ≡ pos 0) × (committed_value plan (reverse journal) 1 x ≡ pos 4)
committed_values = (refl, refl)
