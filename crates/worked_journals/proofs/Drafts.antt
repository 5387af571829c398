-- How plays unfold, and drafts of worked journals that are spoiled by one change: each breaks the rule of drafts that it is meant
-- to break.
use Rattle.std.proofs.Common.{◌≡◌, ℕ, List, [], ◌∷◌, ◌++◌, Some, None, refl}
use Rattle.caa_base.specs.declared.written.entry.Verdict.TheVariants as verdict
use Rattle.place_plan.specs.declared.drafts.draft.Draft.{Draft}
use Rattle.place_plan.specs.declared.drafts.draft_rows.ActionRow.{ActionRow}
use Rattle.place_plan.specs.declared.drafts.draft_rows.PlayRow.{PlayRow}
use Rattle.place_plan.specs.Plans.PlanValue.{PlaceRow}
use Rattle.place_plan.specs.Plans.Bound.{action_bound}
use Rattle.place_plan.specs.Plans.Unfolding.{unfold_at, plays_from, tops_from}
use Rattle.caa_base.specs.Written.Limits.{most_depth}
use Rattle.place_plan.specs.Drafts.DraftRules.{broken_rule, depth_within}
use Rattle.worked_journals.proofs.Notation.{plain_graph, universal, program, play, played, inner}
use Rattle.worked_journals.proofs.ThreeLevels.{ann, bob}
use Rattle.worked_journals.proofs.InnerCommitted as inner_committed
use Rattle.worked_journals.proofs.TwoSiblings as two_siblings
use Rattle.worked_journals.proofs.ThreeLevels as three_levels
use Rattle.worked_journals.proofs.TestsDecide as tests_decide
use Rattle.worked_journals.proofs.Alternates as alternates

-- ---- two uses side by side, and two plays: a place comes before what is nested in it, and a use is whole before the next begins

abbrev pub two_uses : List ActionRow
two_uses =
    three_levels.deep_action
    ∷ three_levels.mid_action
    ∷ (record three_levels.outer_action { nests = three_levels.outer_n ∷ three_levels.outer_n ∷ [] })
    ∷ []

abbrev pub two_plays : List PlayRow
two_plays = played 2 (ann ∷ bob ∷ []) ∷ played 2 (bob ∷ ann ∷ []) ∷ []

abbrev pub two_uses_places : List PlaceRow
two_uses_places =
    play 2 (ann ∷ bob ∷ []) ((1 ∷ []) ∷ (3 ∷ []) ∷ [])
    ∷ inner (0 ∷ []) 0 1 (ann ∷ []) ((2 ∷ []) ∷ [])
    ∷ inner (1 ∷ 0 ∷ []) 0 0 (ann ∷ []) []
    ∷ inner (0 ∷ []) 1 1 (ann ∷ []) ((4 ∷ []) ∷ [])
    ∷ inner (3 ∷ 0 ∷ []) 0 0 (ann ∷ []) []
    ∷ play 2 (bob ∷ ann ∷ []) ((6 ∷ []) ∷ (8 ∷ []) ∷ [])
    ∷ inner (5 ∷ []) 0 1 (bob ∷ []) ((7 ∷ []) ∷ [])
    ∷ inner (6 ∷ 5 ∷ []) 0 0 (bob ∷ []) []
    ∷ inner (5 ∷ []) 1 1 (bob ∷ []) ((9 ∷ []) ∷ [])
    ∷ inner (8 ∷ 5 ∷ []) 0 0 (bob ∷ []) []
    ∷ []

two_uses_unfold : plays_from (unfold_at most_depth two_uses) 0 two_plays ≡ two_uses_places
unfolding unfold_at
two_uses_unfold = refl

two_uses_tops : tops_from (unfold_at most_depth two_uses) 0 two_plays ≡ 0 ∷ 5 ∷ []
unfolding unfold_at
two_uses_tops = refl

-- ---- drafts that break a rule, each by one change of a worked plan

-- rule 4: an action nests itself
abbrev pub nests_itself : Draft
nests_itself =
    record inner_committed.draft {
      actions =
          inner_committed.inner_action
          ∷ (record inner_committed.outer_action { nests = (record inner_committed.outer_n { actions = 1 ∷ [] }) ∷ [] }) ∷ [];
    }

nests_itself_breaks : broken_rule nests_itself ≡ Some 4
unfolding unfold_at depth_within action_bound
nests_itself_breaks = refl

-- rule 6: a role takes part in a nested use and never goes there
abbrev pub never_enters : Draft
never_enters =
    record inner_committed.draft {
      actions =
          inner_committed.inner_action
          ∷ (record inner_committed.outer_action { roles = (record inner_committed.outer_s { body = program [] verdict.Undo }) ∷ [] }) ∷ [];
    }

never_enters_breaks : broken_rule never_enters ≡ Some 6
unfolding unfold_at depth_within action_bound
never_enters_breaks = refl

-- an action that nests this one alone
abbrev pub action_round : ℕ → ActionRow
action_round action = record inner_committed.outer_action { nests = (record inner_committed.outer_n { actions = action ∷ [] }) ∷ [] }

abbrev pub actions_eight_deep : List ActionRow
actions_eight_deep =
    inner_committed.inner_action ∷ action_round 0 ∷ action_round 1 ∷ action_round 2 ∷ action_round 3 ∷ action_round
    4 ∷ action_round 5 ∷ action_round 6 ∷ []

-- nesting goes eight deep at most, and this draft does
abbrev pub nests_eight_deep : Draft
nests_eight_deep = record inner_committed.draft { actions = actions_eight_deep; plays = played 7 (inner_committed.ann ∷ []) ∷ [] }

nests_eight_deep_is_whole : broken_rule nests_eight_deep ≡ None
unfolding unfold_at depth_within action_bound
nests_eight_deep_is_whole = refl

-- rule 8: nine deep
abbrev pub nests_nine_deep : Draft
nests_nine_deep =
    record inner_committed.draft
    { actions = actions_eight_deep ++ action_round 7 ∷ []; plays = played 8 (inner_committed.ann ∷ []) ∷ [] }

nests_nine_deep_breaks : broken_rule nests_nine_deep ≡ Some 8
unfolding unfold_at depth_within action_bound
nests_nine_deep_breaks = refl

-- rule 9: a role has two handlers for one exception
abbrev pub handles_twice : Draft
handles_twice =
    record two_siblings.draft {
      actions =
          (record two_siblings.duo_action {
            roles =
                (record two_siblings.duo_a { handlers = two_siblings.duo_a.handlers ++ two_siblings.duo_b.handlers })
                ∷ two_siblings.duo_b ∷ [];
          }) ∷ [];
    }

handles_twice_breaks : broken_rule handles_twice ≡ Some 9
unfolding unfold_at depth_within action_bound
handles_twice_breaks = refl

-- rule 9 too: what one exception of the nested action is outside isn't said
abbrev pub leaves_unmapped : Draft
leaves_unmapped =
    record tests_decide.draft {
      actions =
          tests_decide.inner_action
          ∷ (record tests_decide.outer_action { nests = (record tests_decide.outer_n { maps = universal ∷ [] }) ∷ [] }) ∷ [];
    }

leaves_unmapped_breaks : broken_rule leaves_unmapped ≡ Some 9
unfolding unfold_at depth_within action_bound
leaves_unmapped_breaks = refl

-- rule 11: the second action of a use tells other exceptions outside than the first
abbrev pub tells_others : Draft
tells_others =
    record alternates.draft {
      graphs = plain_graph ∷ tests_decide.f_graph ∷ [];
      actions = alternates.bad_action ∷ (record alternates.good_action { interface = 1 }) ∷ alternates.outer_action ∷ [];
    }

tells_others_breaks : broken_rule tells_others ≡ Some 11
unfolding unfold_at depth_within action_bound
tells_others_breaks = refl
