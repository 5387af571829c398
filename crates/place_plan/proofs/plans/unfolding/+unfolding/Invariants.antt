use Rattle.std.proofs.Common.{◌≡◌, ◌+◌, ◌*◌, ◌-◌, ◌++◌, ◌∷◌, length, drop}
use Rattle.place_plan.specs.Plans.Unfolding.{unfold_at, uses_from, children_from, alternates_from, numbers_from}
use Rattle.place_plan.specs.inner.Unfolded.{bare_place}
use Rattle.place_plan.proofs.plans.unfolding.+unfolding.Given as goal

abbrev pub decreases-unfold : goal.decreases-unfold
decreases-unfold l = 2 * l.depth

abbrev pub decreases-unfold_use : goal.decreases-unfold_use
decreases-unfold_use l = 2 * l.depth + 1

-- the places and the numbers so far, with those of the uses that are left
abbrev pub invariant-unfold-loop-number : goal.invariant-unfold-loop-number
invariant-unfold-loop-number l = record {
  rows :
      l.places ++ uses_from (unfold_at (l.depth - 1) l.actions) l.who l.outer.items l.number
      (length l.places) (drop l.number l.nests)
      ≡ l.fn.places ++ bare_place l.action l.who l.around l.nest ∷ uses_from
      (unfold_at (l.depth - 1) l.actions) l.who l.outer.items 0 (length l.fn.places + 1) l.nests;
  numbers :
      l.children.items ++ children_from (unfold_at (l.depth - 1) l.actions) l.who l.outer.items l.number
      (length l.places) (drop l.number l.nests)
      ≡ children_from (unfold_at (l.depth - 1) l.actions) l.who l.outer.items 0 (length l.fn.places + 1) l.nests;
}

-- the places and the numbers so far, with those of the alternates that are left
abbrev pub invariant-unfold_use-loop-action : goal.invariant-unfold_use-loop-action
invariant-unfold_use-loop-action l = record {
  rows :
      l.places ++ alternates_from (unfold_at l.depth l.actions) l.cast.items l.around l.nest
      (length l.places) (drop l.action-index l.action-items)
      ≡ l.fn.places ++ alternates_from (unfold_at l.depth l.actions) l.cast.items l.around l.nest
      (length l.fn.places) l.action-items;
  count : length l.numbers ≡ l.action-index;
  numbers :
      l.numbers ++ numbers_from (unfold_at l.depth l.actions) l.cast.items l.around l.nest (length l.places)
      (drop l.action-index l.action-items)
      ≡ numbers_from (unfold_at l.depth l.actions) l.cast.items l.around l.nest (length l.fn.places) l.action-items;
}
