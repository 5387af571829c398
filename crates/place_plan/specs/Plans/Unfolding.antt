-- How the plays of a draft unfold into places.
use Rattle.std.specs.Prelude.{ℕ, ◌+◌, List, [], ◌∷◌, ◌++◌, map, length, slice_index_or, zero, suc}
use Rattle.caa_base.specs.Written.Limits.{most_depth}
use Rattle.place_plan.specs.declared.drafts.draft.Draft.{Draft}
use Rattle.place_plan.specs.declared.drafts.draft_rows.PlayRow.{PlayRow}
use Rattle.place_plan.specs.declared.drafts.draft_rows.ActionRow.{ActionRow}
use Rattle.place_plan.specs.declared.drafts.draft_rows.NestRow.{NestRow}
use Rattle.place_plan.specs.Plans.PlanValue.{Plan, PlaceRow}
use Rattle.place_plan.specs.Plans.Places.{no_action}

-- the places of an instance of an action, with all that is nested in it: from the action, the participants of its roles, the places
-- round it, which use of the enclosing action it is, and the number of its place
abbrev pub Unfolding : Type 0
Unfolding = ℕ → List ℕ → List ℕ → ℕ → ℕ → List PlaceRow

-- the participants that play the roles of a nested use, by those of the enclosing place
abbrev pub cast_of : List ℕ → NestRow → List ℕ
cast_of who nest = map (λ role. slice_index_or who role 0) nest.roles

-- the alternates of one use, each with its whole subtree, one after another; `n` is the number of the first place
abbrev pub alternates_from : Unfolding → List ℕ → List ℕ → ℕ → ℕ → List ℕ → List PlaceRow
alternates_from unfold_one who around i n [] = []
alternates_from unfold_one who around i n (a ∷ rest) =
    let subtree = unfold_one a who around i n in
    subtree ++ alternates_from unfold_one who around i (n + length subtree) rest

-- the numbers of their places
abbrev pub numbers_from : Unfolding → List ℕ → List ℕ → ℕ → ℕ → List ℕ → List ℕ
numbers_from unfold_one who around i n [] = []
numbers_from unfold_one who around i n (a ∷ rest) =
    let subtree = unfold_one a who around i n in
    n ∷ numbers_from unfold_one who around i (n + length subtree) rest

-- the alternates of one nested use of a place that these play
abbrev pub use_from : Unfolding → List ℕ → List ℕ → ℕ → ℕ → NestRow → List PlaceRow
use_from unfold_one who around i n nest = alternates_from unfold_one (cast_of who nest) around i n nest.actions

-- nested uses, each with all its alternates, one after another; `i` is the number of the first, and `n` that of its first place
abbrev pub uses_from : Unfolding → List ℕ → List ℕ → ℕ → ℕ → List NestRow → List PlaceRow
uses_from unfold_one who around i n [] = []
uses_from unfold_one who around i n (nest ∷ nests) =
    let trees = use_from unfold_one who around i n nest in
    trees ++ uses_from unfold_one who around (suc i) (n + length trees) nests

-- the numbers of the places of nested uses, of each use those of its alternates
abbrev pub children_from : Unfolding → List ℕ → List ℕ → ℕ → ℕ → List NestRow → List (List ℕ)
children_from unfold_one who around i n [] = []
children_from unfold_one who around i n (nest ∷ nests) =
    let trees = use_from unfold_one who around i n nest in
    numbers_from unfold_one (cast_of who nest) around i n nest.actions
    ∷ children_from unfold_one who around (suc i) (n + length trees) nests

-- an instance, and what is nested in it at most `depth` deep: its place first, and then its nested uses in order
unfoldable pub unfold_at : ℕ → List ActionRow → Unfolding
unfold_at zero actions a who around i n = []
unfold_at (suc depth) actions a who around i n =
    let nests = (slice_index_or actions a no_action).nests in
    record {
      around = around;
      nest = i;
      action = a;
      roles = who;
      children = children_from (unfold_at depth actions) who (n ∷ around) 0 (n + 1) nests;
    }
    ∷ uses_from (unfold_at depth actions) who (n ∷ around) 0 (n + 1) nests

-- the plays, the first first, and behind each the places inside it
abbrev pub plays_from : Unfolding → ℕ → List PlayRow → List PlaceRow
plays_from unfold_one n [] = []
plays_from unfold_one n (play ∷ plays) =
    let subtree = unfold_one play.action play.who [] 0 n in
    subtree ++ plays_from unfold_one (n + length subtree) plays

-- the places of the plays
abbrev pub tops_from : Unfolding → ℕ → List PlayRow → List ℕ
tops_from unfold_one n [] = []
tops_from unfold_one n (play ∷ plays) =
    let subtree = unfold_one play.action play.who [] 0 n in
    n ∷ tops_from unfold_one (n + length subtree) plays

-- the plan into which a draft unfolds
abbrev pub plan_of : Draft → Plan
plan_of draft = record {
  participants = draft.participants;
  objects = draft.objects;
  graphs = draft.graphs;
  actions = draft.actions;
  places = plays_from (unfold_at most_depth draft.actions) 0 draft.plays;
  plays = tops_from (unfold_at most_depth draft.actions) 0 draft.plays;
  drills = draft.drills;
  watches = draft.watches;
}
