-- What the unfolding has made.
use Rattle.std.specs.Prelude.{◌≡◌, ℕ, List, []}
use Rattle.caa_base.specs.Written.Limits.{most_depth}
use Rattle.place_plan.specs.declared.drafts.draft_rows.PlayRow.{PlayRow}
use Rattle.place_plan.specs.declared.drafts.draft_rows.ActionRow.{ActionRow}
use Rattle.place_plan.specs.Plans.PlanValue.{PlaceRow}
use Rattle.place_plan.specs.Plans.Unfolding.{unfold_at, plays_from, tops_from}

-- the place of an instance, before its nested uses have their places
abbrev pub bare_place : ℕ → List ℕ → List ℕ → ℕ → PlaceRow
bare_place a who around i = record { around = around; nest = i; action = a; roles = who; children = [] }

-- the place with the places of its nested uses
abbrev pub with_children : List (List ℕ) → PlaceRow → PlaceRow
with_children children row = record row { children = children }

-- these are the places into which plays of such actions unfold, and these of them are the plays
pub record IsMade (actions : List ActionRow) (plays : List PlayRow) (places : List PlaceRow) (tops : List ℕ) : Type 0 where
  pub places_are : places ≡ plays_from (unfold_at most_depth actions) 0 plays
  pub tops_are : tops ≡ tops_from (unfold_at most_depth actions) 0 plays
