-- What a draft keeps that breaks none of the rules 1 to 9, action by action.
use Rattle.std.proofs.Common.{◌≡◌, ℕ, ◌<◌, ◌≤◌, ◌+◌, nat_lt, nat_le, Bool, true, false, not, List, [], ◌∷◌, length, slice_index_or, Option, None, refl, arith, suc}
use Rattle.std.specs.List.{list_all}
use Rattle.std.proofs.lemmas.Bool.Decides.{nat_tests}
use Rattle.std.proofs.lemmas.Bool.{and_parts, false≢true, ltb-true, leb-true, not-true}
use Rattle.place_plan.specs.declared.drafts.draft.Draft.{Draft}
use Rattle.place_plan.specs.declared.drafts.draft_rows.GraphRow.{GraphRow}
use Rattle.place_plan.specs.declared.drafts.draft_rows.ObjectRow.{ObjectRow}
use Rattle.place_plan.specs.declared.drafts.draft_rows.PlayRow.{PlayRow}
use Rattle.place_plan.specs.declared.drafts.draft_rows.ActionRow.{ActionRow}
use Rattle.place_plan.specs.declared.drafts.draft_rows.NestRow.{NestRow}
use Rattle.caa_base.specs.Written.Lists.{is_empty}
use Rattle.place_plan.specs.Plans.Places.{no_action}
use Rattle.caa_base.specs.Written.Limits.{is_value, most_participants, most_objects, most_graphs, most_actions, most_roles, most_nests, most_watches, most_drills}
use Rattle.place_plan.specs.Drafts.DraftRules.{size_rule, first_is_plain, graph_rule, action_fits, nest_fits, range_rule, is_rising, is_rising_above, all_below, exceptions_of, graphs_in_range, objects_in_range, parts_in_range, nest_in_range, action_in_range, play_in_range, order_rule, fill_rule, fills, nest_fills, enter_rule, object_rule, depth_rule, handler_rule, bound_rule, broken_rule, broken_if, KeepsParts}
use Rattle.place_plan.specs.inner.Tables.{are_nests_known}
use Rattle.caa_base.proofs.ListLemmas.{at_row, all_imply}

-- ---- numbers

-- rising numbers below n are at most n
rising_few : (low n : ℕ) (xs : List ℕ) → low < n → is_rising_above low xs ≡ true → all_below n xs ≡ true → length xs + low < n
rising_few low n [] l h k = omega arith
rising_few low n (x ∷ xs) l h k =
    let a = and_parts (nat_lt low x) (is_rising_above x xs) h in
    let b = and_parts (nat_lt x n) (all_below n xs) k in
    let more = rising_few x n xs (ltb-true x n b.0) a.1 b.1 in
    let above = ltb-true low x a.0 in
    omega arith

pub few_objects : (n : ℕ) (xs : List ℕ) → is_rising xs ≡ true → all_below n xs ≡ true → length xs ≤ n
few_objects n [] h k = omega arith
few_objects n (x ∷ xs) h k =
    let b = and_parts (nat_lt x n) (all_below n xs) k in
    let more = rising_few x n xs (ltb-true x n b.0) h b.1 in
    omega arith

-- ---- which rules are kept

rule_passes : (b : Bool) (rule : ℕ) (next : Option ℕ) → broken_if b rule next ≡ None → (b ≡ true) × (next ≡ None)
rule_passes true rule next h = (refl, h)
rule_passes false rule next h = absurd cc

-- a draft that breaks no rule keeps each
pub keeps_rules : (draft : Draft) → broken_rule draft ≡ None → KeepsParts draft × (bound_rule draft ≡ true)
keeps_rules draft whole =
    let a = rule_passes (size_rule draft) 1 _ whole in
    let b = rule_passes (graph_rule draft) 2 _ a.1 in
    let c = rule_passes (range_rule draft) 3 _ b.1 in
    let d = rule_passes (order_rule draft) 4 _ c.1 in
    let e = rule_passes (fill_rule draft) 5 _ d.1 in
    let f = rule_passes (enter_rule draft) 6 _ e.1 in
    let g = rule_passes (object_rule draft) 7 _ f.1 in
    let h = rule_passes (depth_rule draft) 8 _ g.1 in
    let i = rule_passes (handler_rule draft) 9 _ h.1 in
    let j = rule_passes (bound_rule draft) 10 _ i.1 in (
      record {
        sizes = a.0;
        graphs = b.0;
        ranges = c.0;
        order = d.0;
        fillings = e.0;
        enters = f.0;
        objects = g.0;
        depths = h.0;
        handlers = i.0;
      },
      j.0,
    )

-- ---- the parts of the rules

pub all_fit : (draft : Draft) → size_rule draft ≡ true → list_all action_fits draft.actions ≡ true
all_fit draft h =
    let a = and_parts (nat_le (length draft.participants) most_participants) _ h in
    let b = and_parts (nat_le (length draft.objects) most_objects) _ a.1 in
    let c = and_parts (nat_le (length draft.graphs) (suc most_graphs)) _ b.1 in
    let d = and_parts (nat_le (length draft.actions) most_actions) _ c.1 in
    let e = and_parts (nat_le (length draft.watches) most_watches) _ d.1 in
    (and_parts (nat_le (length draft.drills) most_drills) _ e.1).1

pub some_graphs : (rows : List GraphRow) → first_is_plain rows ≡ true → nat_lt 0 (length rows) ≡ true
some_graphs [] h = absurd (false≢true h)
some_graphs (row ∷ rows) h = grind (arith, nat_tests)

-- each use is of actions that are there
pub range_known : (draft : Draft) → range_rule draft ≡ true → are_nests_known draft.actions ≡ true
range_known draft h =
    all_imply (action_in_range draft)
    (λ (action : ActionRow). list_all
    (λ (nest : NestRow). all_below (length draft.actions) nest.actions) action.nests) draft.actions
    (λ a k.
    all_imply (nest_in_range (length draft.actions) (length a.roles) (exceptions_of draft a.internal))
    (λ (nest : NestRow). all_below (length draft.actions) nest.actions) a.nests
    (λ nest m. (and_parts (all_below (length draft.actions) nest.actions) _ m).0)
    (and_parts _ _ (and_parts (objects_in_range draft a) _ (and_parts (graphs_in_range draft a) _ k).1).1).1)
    (and_parts _ _ (and_parts (list_all (λ (o : ObjectRow). is_value o.initial) draft.objects) _ h).1).0

module _ (draft : Draft) (keeps : KeepsParts draft) where
  pub initials_range : list_all (λ (o : ObjectRow). is_value o.initial) draft.objects ≡ true
  initials_range = (and_parts (list_all (λ (o : ObjectRow). is_value o.initial) draft.objects) _ keeps.ranges).0

  pub actions_range : list_all (action_in_range draft) draft.actions ≡ true
  actions_range = (and_parts _ _ (and_parts (list_all (λ (o : ObjectRow). is_value o.initial) draft.objects) _ keeps.ranges).1).0

  pub plays_range : list_all (play_in_range draft) draft.plays ≡ true
  plays_range =
      (and_parts _ _ (and_parts _ _
      (and_parts (list_all (λ (o : ObjectRow). is_value o.initial) draft.objects) _ keeps.ranges).1).1).0

  pub plays_fill : list_all (λ (play : PlayRow). fills draft play.action play.who) draft.plays ≡ true
  plays_fill = (and_parts _ _ keeps.fillings).1

  pub nests_fill : list_all (λ (action : ActionRow). list_all (nest_fills draft) action.nests) draft.actions ≡ true
  nests_fill = (and_parts _ _ keeps.fillings).0

  -- the graphs, the objects and the parts of an action are in range
  pub graphs_range : list_all (graphs_in_range draft) draft.actions ≡ true
  graphs_range =
      all_imply (action_in_range draft) (graphs_in_range draft) draft.actions
      (λ a h. (and_parts (graphs_in_range draft a) _ h).0) actions_range

  pub objects_range : list_all (objects_in_range draft) draft.actions ≡ true
  objects_range =
      all_imply (action_in_range draft) (objects_in_range draft) draft.actions
      (λ a h. (and_parts (objects_in_range draft a) _ (and_parts (graphs_in_range draft a) _ h).1).0) actions_range

  pub parts_range : list_all (parts_in_range draft) draft.actions ≡ true
  parts_range =
      all_imply (action_in_range draft) (parts_in_range draft) draft.actions
      (λ a h. (and_parts _ _ (and_parts (graphs_in_range draft a) _ h).1).1) actions_range

  -- there are few actions
  pub few_actions : length draft.actions ≤ most_actions
  few_actions =
      let a = and_parts (nat_le (length draft.participants) most_participants) _ keeps.sizes in
      let b = and_parts (nat_le (length draft.objects) most_objects) _ a.1 in
      let c = and_parts (nat_le (length draft.graphs) (suc most_graphs)) _ b.1 in
      leb-true _ _ (and_parts (nat_le (length draft.actions) most_actions) _ c.1).0

  -- an action has few roles
  pub few_of_action : (a : ℕ) → a < length draft.actions → length (slice_index_or draft.actions a no_action).roles ≤ most_roles
  few_of_action a l =
      let action = slice_index_or draft.actions a no_action in
      let fit = at_row action_fits draft.actions a no_action (all_fit draft keeps.sizes) l in
      leb-true (length action.roles) most_roles
      (and_parts (nat_le (length action.roles) most_roles) _ (and_parts (not (is_empty action.roles)) _ fit).1).0

  -- each use has alternates, and few
  pub all_nests_fit : list_all (λ (action : ActionRow). list_all nest_fits action.nests) draft.actions ≡ true
  all_nests_fit =
      all_imply action_fits (λ (action : ActionRow). list_all nest_fits action.nests) draft.actions
      (λ action h.
      let b = and_parts (nat_le (length action.roles) most_roles) _ (and_parts (not (is_empty action.roles)) _ h).1 in
      (and_parts _ _ (and_parts (nat_le (length action.nests) most_nests) _ b.1).1).1)
      (all_fit draft keeps.sizes)

  pub has_roles : (a : ℕ) → a < length draft.actions → is_empty (slice_index_or draft.actions a no_action).roles ≡ false
  has_roles a l = not-true _ (and_parts _ _ (at_row action_fits draft.actions a no_action (all_fit draft keeps.sizes) l)).0

  -- each nested use of an action is in range, has alternates, and its roles fill them
  module _ (a : ℕ) (l : a < length draft.actions) where
    abbrev action : ActionRow
    action = slice_index_or draft.actions a no_action

    pub nests_range : list_all
        (nest_in_range (length draft.actions) (length action.roles) (exceptions_of draft action.internal)) action.nests
        ≡ true
    nests_range = (and_parts _ _ (at_row (parts_in_range draft) draft.actions a no_action parts_range l)).1

    pub nests_fit : list_all nest_fits action.nests ≡ true
    nests_fit = at_row (λ (action : ActionRow). list_all nest_fits action.nests) draft.actions a no_action all_nests_fit l

    pub nests_filled : list_all (nest_fills draft) action.nests ≡ true
    nests_filled = at_row (λ (action : ActionRow). list_all (nest_fills draft) action.nests) draft.actions a no_action nests_fill l
