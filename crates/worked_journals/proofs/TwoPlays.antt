-- Two plays of one action take the object in turn.
--
-- The script:
--   participant ann / participant bob / object x 0 / action w / use x / roles r / body r / read x / add x 1 / end
--   / play w ann / play w bob
use Rattle.std.proofs.Common.{◌≡◌, ℕ, pos, List, [], ◌∷◌, reverse, refl, codes, rules}
use Rattle.caa_base.specs.declared.written.entry.Entry.{Entry}
use Rattle.caa_base.specs.declared.written.entry.Verdict.TheVariants as verdict
use Rattle.place_plan.specs.Plans.Bound.{action_bound}
use Rattle.place_plan.specs.Drafts.DraftRules.{depth_within}
use Rattle.place_plan.specs.RulesOfJournals.Journals.{committed_value}
use Rattle.place_plan.specs.Plans.PlanValue.{Plan}
use Rattle.place_plan.specs.Plans.Unfolding.{unfold_at}
use Rattle.place_plan.specs.declared.drafts.draft.Draft.{Draft}
use Rattle.place_plan.specs.declared.drafts.draft_rows.AbortRow.TheVariants as abort
use Rattle.place_plan.specs.declared.drafts.draft_rows.ActionRow.{ActionRow}
use Rattle.place_plan.specs.declared.drafts.draft_rows.RoleRow.{RoleRow}
use Rattle.place_plan.specs.declared.drafts.draft_rows.Step.TheVariants as step
use Rattle.worked_journals.proofs.Notation.{plain_graph, arrive, start, read, write, verdict_done, end_commit, leave, object, program, role, action, played, unfolded, play, complete_from, kept_value, IsWorked}

-- ---- the draft and its unfolding

abbrev pub ann : ℕ
ann = 0

abbrev pub bob : ℕ
bob = 1

abbrev pub x : ℕ
x = 0

abbrev pub w_r : RoleRow
w_r = role (codes "r") (program (step.Read x ∷ step.Add x (pos 1) ∷ []) verdict.Done) [] abort.Never

abbrev pub w_action : ActionRow
w_action = action (codes "w") (x ∷ []) (w_r ∷ []) []

abbrev pub draft : Draft
draft =
    record {
      participants = codes "ann" ∷ codes "bob" ∷ [];
      objects = object (codes "x") 0 ∷ [];
      graphs = plain_graph ∷ [];
      actions = w_action ∷ [];
      plays = played 0 (ann ∷ []) ∷ played 0 (bob ∷ []) ∷ [];
      drills = [];
      watches = [];
    }

abbrev pub plan : Plan
plan =
    unfolded draft
    (play 0 (ann ∷ []) []
    ∷ play 0 (bob ∷ []) [] ∷ [])
    (0 ∷ 1 ∷ [])

-- ---- the journal

abbrev pub journal : List Entry
journal =
    arrive 0 ann
    ∷ start 0 ann
    ∷ arrive 1 bob
    ∷ read 0 ann x 0
    ∷ write 0 ann x 1
    ∷ verdict_done 0 ann
    ∷ end_commit 0 ann
    ∷ start 1 bob
    ∷ leave 0 ann
    ∷ read 1 bob x 1
    ∷ write 1 bob x 2
    ∷ verdict_done 1 bob
    ∷ end_commit 1 bob
    ∷ leave 1 bob
    ∷ []

pub worked : IsWorked draft plan journal
    (pos 2 ∷ [])
    ((x, pos 1) ∷ (x, pos 2) ∷ [])
    30
unfolding unfold_at depth_within action_bound
worked = record {
  unfolds = record { whole = refl; same = refl };
  legal = assumption;
  complete = complete_from plan journal refl;
  well_formed = search rules;
  leaves = refl;
  taken = refl;
  bounded = refl;
}

pub kept_values : kept_value plan journal x ≡ pos 2
kept_values = refl

-- what the object holds by the first none, one and two of the plays that ended
pub committed_values :
    (committed_value plan (reverse journal) 0 x ≡ pos 0) × (committed_value plan (reverse journal) 1 x ≡ pos 1)
    × (committed_value plan (reverse journal) 2 x ≡ pos 2)
committed_values = (refl, refl, refl)
