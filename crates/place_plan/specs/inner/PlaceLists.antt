-- The rows of places whose lists are parts of a few lists.
use Rattle.std.specs.Prelude.{◌≡◌, ℕ, ◌≤◌, List, map, length, slice_range}
use Rattle.std.specs.List.{All}
use Rattle.place_plan.specs.declared.plans.places.Part.{Part}
use Rattle.place_plan.specs.declared.plans.places.PlaceParts.{PlaceParts}
use Rattle.place_plan.specs.Plans.PlanValue.{PlaceRow}

-- the part of a list
abbrev pub part_of : {A : Type 0} → List A → Part → List A
part_of list part = slice_range list part.from part.to

-- the row of a place, by its parts of the places round places, of the players, and of the nested uses
abbrev pub row_of : List ℕ → List ℕ → List (List ℕ) → PlaceParts → PlaceRow
row_of around players uses parts = record {
  around = part_of around parts.around;
  nest = parts.nest;
  action = parts.action;
  roles = part_of players parts.roles;
  children = part_of uses parts.uses;
}

-- the rows of all places
abbrev pub rows_of : List ℕ → List ℕ → List (List ℕ) → List PlaceParts → List PlaceRow
rows_of around players uses parts = map (row_of around players uses) parts

-- the list is long enough for the part
pub record IsPart {A : Type 0} (part : Part) (list : List A) : Type 0 where
  pub rises : part.from ≤ part.to
  pub within : part.to ≤ length list

-- so is each list for the part of a place
pub record IsWithin (places players : List ℕ) (nested : List (List ℕ)) (parts : PlaceParts) : Type 0 where
  pub around : IsPart parts.around places
  pub roles : IsPart parts.roles players
  pub uses : IsPart parts.uses nested

-- and of all places
abbrev pub AreWithin : List ℕ → List ℕ → List (List ℕ) → List PlaceParts → Type 0
AreWithin around players uses parts = All (IsWithin around players uses) parts

-- the part is what the list has more than before
pub record IsPartOf (before now : List ℕ) (part : Part) : Type 0 where
  pub begins : part.from ≡ length before
  pub ends : part.to ≡ length now
