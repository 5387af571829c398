use Rattle.std.proofs.Common.{◌≡◌, ◌≤◌, ◌+◌, ◌++◌, [], ◌∷◌, length, get_or, drop, ◌-◌, ◌<◌, true, slice_index_or, slice_set, arith, rules, ap, sym, subst, subst₂, ◌∙◌, append-nil}
use Rattle.std.proofs.lemmas.Bool.{eqb-true}
use Rattle.std.proofs.lemmas.List.{nil_from_length}
use Rattle.caa_base.specs.Written.Limits.{most_places}
use Rattle.caa_base.proofs.ListLemmas.{at_row}
use Rattle.place_plan.specs.Plans.Places.{no_place}
use Rattle.place_plan.specs.Plans.Unfolding.{unfold_at, use_from, alternates_from, children_from, numbers_from, cast_of}
use Rattle.place_plan.specs.Drafts.DraftRules.{nest_fits}
use Rattle.place_plan.specs.inner.Unfolded.{with_children}
use Rattle.place_plan.proofs.OnPlans.Unfolds.{at_bottom, few_in_use, stands_alone, use_fits, next_rows, next_numbers, all_stand, number_fits, alternate_fits}
use Rattle.place_plan.proofs.plans.unfolding.+unfolding.Goals as goal

pub unfold-returns-then-depth-eq0 : goal.unfold-returns-then-depth-eq0
unfold-returns-then-depth-eq0 t c =
    sym (ap (λ rows. c.args.places.now ++ rows)
    (ap (λ d. unfold_at d c.args.actions.now c.args.action c.args.who.now c.args.around.now c.args.nest
    (length c.args.places.now)) c.if-depth-eq0.true
    ∙ at_bottom c.args.actions.now c.args.action c.args.who.now c.args.around.now c.args.nest
    (length c.args.places.now)) ∙ append-nil c.args.places.now)

pub unfold-returns-then-is_empty : goal.unfold-returns-then-is_empty
unfold-returns-then-is_empty t c =
    let deep : 0 < c.args.depth = omega (arith, c.if-depth-eq0.false) in
    let none : c.nests_of-nests.result.now ≡ [] =
    nil_from_length c.nests_of-nests.result.now (eqb-true _ _ (sym c.is_empty.ensures ∙ c.if-is_empty.true)) in
    c.in_ok-push.ensures
    ∙ stands_alone c.args.depth c.args.actions.now c.args.action c.args.who.now c.args.around.now c.args.nest
    c.args.places.now deep (sym c.nests_of-nests.ensures.nests ∙ none)

pub unfold-unfold_use-requires : goal.unfold-unfold_use-requires
unfold-unfold_use-requires t c =
    let deep : 0 < c.args.depth = omega (arith, c.if-depth-eq0.false) in
    let place : c.len-place.result ≡ length c.args.places.now = c.len-place.ensures in
    let outer : c.in_ok-outer.outer.items ≡ length c.args.places.now ∷ c.args.around.now =
    c.in_ok-outer.ensures ∙ ap (λ p. p ∷ c.args.around.now) place in
    let few =
    use_fits c.args.depth c.args.actions.now c.args.action c.args.who.now c.args.around.now c.in_ok-outer.outer.items
    c.args.nest c.args.places.now c.loop-number.places c.nests_of-nests.result.now c.loop-number.number
    deep outer c.nests_of-nests.ensures.nests c.loop-number-test.true c.loop-number.invariant.rows c.requires.few
    c.index-nests-number.result c.index-nests-number.is in (
      search rules,
      (
        few_in_use c.index-nests-number.result
            (subst (λ nest. nest_fits nest ≡ true) (sym c.index-nests-number.is)
            (at_row nest_fits c.nests_of-nests.result.now c.loop-number.number c.index-nests-number.result
            c.nests_of-nests.ensures.fit c.loop-number-test.true)),
        (
          c.requires.fit,
          subst (λ o. length c.loop-number.places + length
              (use_from (unfold_at (c.args.depth - 1) c.args.actions.now) c.args.who.now o c.loop-number.number
              (length c.loop-number.places) c.index-nests-number.result) ≤ most_places)
              (sym c.as_slice.ensures.value) few,
        ),
      ),
    )

pub unfold-loop-number-preserved : goal.unfold-loop-number-preserved
unfold-loop-number-preserved t c =
    let one = unfold_at (c.args.depth - 1) c.args.actions.now in
    let who = c.args.who.now in
    let outer = c.in_ok-outer.outer.items in
    let places = c.loop-number.places in
    let now = c.unfold_use.new.places in
    let nests = c.nests_of-nests.result.now in
    let number = c.loop-number.number in
    let used = c.index-nests-number.result in
    let is : now ≡ places ++ use_from one who outer number (length places) used =
    c.in_ok-row.ensures.places
    ∙ ap (λ o. places ++ use_from one who o number (length places) used) c.as_slice.ensures.value in
    let row : c.in_ok-row.row ≡ numbers_from one (cast_of who used) outer number (length places) used.actions =
    c.in_ok-row.ensures.numbers
    ∙ ap (λ o. numbers_from one (cast_of who used) o number (length places) used.actions) c.as_slice.ensures.value in
    record {
      rows =
          next_rows one who outer places now nests number used c.loop-number-test.true c.index-nests-number.is is
          ∙ c.loop-number.invariant.rows;
      numbers =
          ap (λ children. children ++ children_from one who outer (number + 1) (length now) (drop (number + 1) nests))
          c.in_ok-push-2.ensures.items
          ∙ next_numbers one who outer places now nests number used c.loop-number-test.true c.index-nests-number.is is
          c.loop-number.children.items c.in_ok-row.row row
          ∙ c.loop-number.invariant.numbers;
    }

pub unfold-returns : goal.unfold-returns
unfold-returns t c =
    let deep : 0 < c.args.depth = omega (arith, c.if-depth-eq0.false) in
    let place : c.len-place.result ≡ length c.args.places.now = c.len-place.ensures in
    let outer : c.in_ok-outer.outer.items ≡ length c.args.places.now ∷ c.args.around.now =
    c.in_ok-outer.ensures ∙ ap (λ p. p ∷ c.args.around.now) place in
    let ended : length c.nests_of-nests.result.now ≤ c.loop-number.number = c.loop-number-test.false in
    c.in_ok-set_uses.ensures
    ∙ ap (λ p. slice_set c.loop-number.places p
    (with_children c.loop-number.children.items (slice_index_or c.loop-number.places p no_place))) place
    ∙ all_stand c.args.depth c.args.actions.now c.args.action c.args.who.now c.args.around.now c.in_ok-outer.outer.items
    c.args.nest c.args.places.now c.loop-number.places c.nests_of-nests.result.now c.loop-number.number
    deep outer c.nests_of-nests.ensures.nests ended c.loop-number.invariant.rows c.loop-number.children.items
    c.loop-number.invariant.numbers

pub unfold_use-overflow_cast-len : goal.unfold_use-overflow_cast-len
unfold_use-overflow_cast-len t c =
    let few : length c.args.places.now + length
    (alternates_from (unfold_at c.args.depth c.args.actions.now) c.in_ok-cast.cast.items c.args.around.now
    c.args.nest (length c.args.places.now) c.as_slice-action-items.result.now) ≤ most_places =
    subst₂ (λ cast acts. length c.args.places.now + length
    (alternates_from (unfold_at c.args.depth c.args.actions.now) cast c.args.around.now c.args.nest
    (length c.args.places.now) acts) ≤ most_places) (sym c.in_ok-cast.ensures)
    (sym c.as_slice-action-items.ensures) c.requires.few in
    let fits =
    number_fits (unfold_at c.args.depth c.args.actions.now) c.in_ok-cast.cast.items c.args.around.now c.args.nest
    c.args.places.now c.loop-action.places c.as_slice-action-items.result.now c.loop-action.action-index
    c.loop-action.invariant.rows few in
    omega (arith, c.len.ensures, fits)

pub unfold_use-unfold-requires : goal.unfold_use-unfold-requires
unfold_use-unfold-requires t c =
    let few : length c.args.places.now + length
    (alternates_from (unfold_at c.args.depth c.args.actions.now) c.in_ok-cast.cast.items c.args.around.now
    c.args.nest (length c.args.places.now) c.as_slice-action-items.result.now) ≤ most_places =
    subst₂ (λ cast acts. length c.args.places.now + length
    (alternates_from (unfold_at c.args.depth c.args.actions.now) cast c.args.around.now c.args.nest
    (length c.args.places.now) acts) ≤ most_places) (sym c.in_ok-cast.ensures)
    (sym c.as_slice-action-items.ensures) c.requires.few in
    let fits =
    alternate_fits (unfold_at c.args.depth c.args.actions.now) c.in_ok-cast.cast.items c.args.around.now c.args.nest
    c.args.places.now c.loop-action.places c.as_slice-action-items.result.now c.loop-action.action-index
    c.loop-action.invariant.rows few c.loop-action-test.true in (
      search rules,
      (
        c.requires.fit,
        subst (λ cast. length c.loop-action.places + length
            (unfold_at c.args.depth c.args.actions.now
            (get_or c.as_slice-action-items.result.now c.loop-action.action-index 0) cast c.args.around.now c.args.nest
            (length c.loop-action.places)) ≤ most_places) (sym c.as_slice.ensures.value) fits,
      ),
    )
