-- A table that leaves nothing out tells all that can come by the plan.
use Rattle.std.proofs.Common.{◌≡◌, ℕ, ◌==◌, true, false, not, List, [], length, slice_index_or, suc, refl, ap, ◌∙◌, arith}
use Rattle.std.specs.List.{list_any}
use Rattle.std.proofs.lemmas.Bool.{and_parts, and_from, eqb-true}
use Rattle.caa_base.specs.declared.written.entry.Outcome.{Outcome}
use Rattle.caa_base.specs.declared.written.entry.Outcome.TheVariants as outcome
use Rattle.caa_base.specs.Written.Lists.{is_empty}
use Rattle.place_plan.specs.declared.drafts.draft_rows.ActionRow.{ActionRow}
use Rattle.place_plan.specs.Plans.PlanValue.{Plan}
use Rattle.place_plan.specs.Plans.Places.{graph_at}
use Rattle.reach_laws.specs.ReachedSteps.{can_fail_at}
use Rattle.reach_laws.specs.CanCome.{action_of, use_in, bodies_end, body_verdicts, answers, Source, nested_use, is_given_up, AreTogether, CanRaise, CanBeRaised, CanBeResolved, CanEnd, CanBeTried, by_step, by_use, by_itself, by_abort, by_failure, least_of, calmly, by_answers, broken_off, not_taken_back, in_turn}
use Rattle.reach_tables.specs.declared.table.RaisedBy.TheVariants as by
use Rattle.reach_tables.specs.declared.table.ReachRow.{ReachRow}
use Rattle.reach_tables.specs.ReachTable.{source_of, row_of, all_told, are_together, groups_of, can_resolve, is_beside, has_beside, tells_order, tells_end, tells_verdicts, tells_resolved, LeavesNothingOut}
use Rattle.reach_tables.proofs.SourcesTold.{name_of, source_named, told_as, named_together, IsAmong, step_told, use_told, given_told}
use Rattle.reach_tables.proofs.ResolvedTold.{resolves_told}
use Rattle.reach_tables.proofs.EndsTold.{implied, or_other, range_passes, ends_told, made_told, names_told, failure_told, last_at, at_end, IsTurn, turn_of}

-- who raises something by itself isn't a use that was given up
raises_itself : (plan : Plan) (a : ℕ) (source : Source) (x : ℕ) → CanRaise plan a source x → is_given_up source ≡ false
raises_itself plan a source x (by_step _ r i _ s at_i raises) = refl
raises_itself plan a source x (by_use _ k j b _ how tried can made) = refl

-- what such a source raises in one place with a use passes the test of what is beside it
passes_beside : (action : ActionRow) (row : ReachRow) → tells_order action row.order ≡ true → (k : ℕ) (other : Source) (y : ℕ)
    → is_given_up other ≡ false → AreTogether action other (nested_use k) → is_beside action row.order k (told_as other y) ≡ true
passes_beside action row right k other y itself both =
    and_from (not (is_given_up (source_of (name_of other)))) (are_together action row.order (name_of other) (by.Use k))
    (ap not (ap is_given_up (source_named other) ∙ itself)) (named_together action row.order right other (nested_use k) both)

module _ (plan : Plan) (table : List ReachRow) (all : LeavesNothingOut plan table) where
  -- among all that is told of an action stands the source with the exception
  abbrev pub IsTold : ℕ → Source → ℕ → Type 0
  IsTold a source x = IsAmong (all_told (action_of plan a) (row_of table a)) (told_as source x)

  beside_told : (a k : ℕ) (other : Source) (y : ℕ) → is_given_up other ≡ false → AreTogether (action_of plan a) other (nested_use k)
      → IsTold a other y → has_beside (action_of plan a) (row_of table a) k ≡ true
  beside_told a k other y itself both told =
      told (is_beside (action_of plan a) (row_of table a).order k)
      (passes_beside (action_of plan a) (row_of table a) (all a).order k other y itself both)

  mutual
    raise_told : (a : ℕ) (source : Source) (x : ℕ) → CanRaise plan a source x → IsTold a source x
    raise_told a source x (by_step _ r i _ s at_i raises) =
        step_told (action_of plan a) (row_of table a) r i x s at_i raises
    raise_told a source x (by_use _ k j b _ how tried can made) =
        let nest = use_in (action_of plan a) k in
        let turn = tried_told a k j b tried in
        use_told (action_of plan a) (row_of table a) k x
        (made_told nest (slice_index_or (row_of table a).by_uses k []) (suc j == length nest.actions)
        (last_at nest.actions j) (row_of table b) how x (turn_of plan table all a k j b turn).ends
        (λ e. at_end nest.actions j b turn.there (eqb-true (suc j) (length nest.actions) e)) (end_told b how can) made)

    pub raised_told : (a : ℕ) (source : Source) (x : ℕ) → CanBeRaised plan a source x → IsTold a source x
    raised_told a source x (by_itself _ _ _ can) = raise_told a source x can
    raised_told a source x (by_abort _ k j b z other y tried others both names) =
        let nest = use_in (action_of plan a) k in
        given_told (action_of plan a) (row_of table a) k (slice_index_or nest.maps z 0)
        (names_told nest (slice_index_or (row_of table a).given_up k []) z (action_of plan b)
        ((turn_of plan table all a k j b (tried_told a k j b tried)).aborts
        (beside_told a k other y (raises_itself plan a other y others) both (raise_told a other y others))) names)
    raised_told a source x (by_failure _ k j b other y tried others both some) =
        let nest = use_in (action_of plan a) k in
        use_told (action_of plan a) (row_of table a) k nest.failure
        (failure_told nest (slice_index_or (row_of table a).by_uses k []) (action_of plan b)
        ((turn_of plan table all a k j b (tried_told a k j b tried)).failure
        (beside_told a k other y (raises_itself plan a other y others) both (raise_told a other y others))) some)

    pub resolved_told : (a x : ℕ) → CanBeResolved plan a x
        → (tells_resolved (graph_at plan (action_of plan a).internal) (graph_at plan (action_of plan a).interface)
        (action_of plan a) (row_of table a) (groups_of (action_of plan a) (row_of table a)) x ≡ true)
        × (can_resolve (graph_at plan (action_of plan a).internal) (groups_of (action_of plan a) (row_of table a)) x ≡ true)
    resolved_told a x (least_of _ _ raised source some can apart least) =
        let internal = graph_at plan (action_of plan a).internal in
        let interface = graph_at plan (action_of plan a).interface in
        let groups = groups_of (action_of plan a) (row_of table a) in (
          range_passes (tells_resolved internal interface (action_of plan a) (row_of table a) groups) 0 internal.count x
              (all a).resolved (omega arith) (let below = least.in_range in omega arith),
          resolves_told (action_of plan a) (row_of table a) (all a).order internal raised source x some
              (λ y m. raised_told a (source y) y (can y m)) apart least,
        )

    pub end_told : (a : ℕ) (how : Outcome) → CanEnd plan a how → tells_end (row_of table a) how ≡ true
    end_told a how (calmly _ _ ends said) =
        ends_told (graph_at plan (action_of plan a).interface) (row_of table a) (body_verdicts (action_of plan a)) how
        (implied (bodies_end (action_of plan a)) _ (all a).calm ends) said
    end_told a how (by_answers _ x _ resolved said) =
        let told = resolved_told a x resolved in
        let groups = groups_of (action_of plan a) (row_of table a) in
        ends_told (graph_at plan (action_of plan a).interface) (row_of table a) (answers (action_of plan a) x) how
        (and_parts _ _ (implied (can_resolve (graph_at plan (action_of plan a).internal) groups x) _ told.0 told.1)).0 said
    end_told a how (broken_off _ x resolved fails) =
        let told = resolved_told a x resolved in
        let groups = groups_of (action_of plan a) (row_of table a) in
        implied (list_any (can_fail_at x) (action_of plan a).roles) (row_of table a).undone
        (and_parts (tells_verdicts (graph_at plan (action_of plan a).interface) (row_of table a) (answers (action_of plan a) x)) _
        (implied (can_resolve (graph_at plan (action_of plan a).internal) groups x) _ told.0 told.1)).1 fails
    end_told a how (not_taken_back _ undone some) =
        or_other (is_empty (action_of plan a).objects) (row_of table a).failed
        (implied (row_of table a).undone _ (all a).failures (end_told a outcome.Undone undone)) some

    tried_told : (a k j b : ℕ) → CanBeTried plan a k j b → IsTurn plan table a k j b
    tried_told a k j b (in_turn _ _ _ _ entered at_j earlier) =
        record {
          entered = entered;
          there = at_j;
          earlier = λ i c l at_i. end_told c outcome.Undone (earlier i c l at_i);
        }
