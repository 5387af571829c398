-- What the laws need of a plan: its places are a tree, each use of a place leads its roles on, and all numbers are in range.
use Rattle.std.proofs.Common.{◌≡◌, ℕ, ◌<◌, true, false, List, [], ◌∷◌, length, slice_get, Option, Some}
use Rattle.cover_table.specs.Cover.{IsSound, SetsHaveLeastCovers}
use Rattle.place_plan.specs.declared.drafts.draft_rows.Step.{Step}
use Rattle.place_plan.specs.declared.drafts.draft_rows.Step.TheVariants as step
use Rattle.place_plan.specs.Plans.PlanValue.{Plan}
use Rattle.caa_base.specs.Written.Lists.{member, is_empty}
use Rattle.caa_base.specs.inner.Lists.{Rises}
use Rattle.place_plan.specs.Plans.Places.{around, parent, roles_of, objects_of, uses, alternates_of, nest_number, nest_of, body_of, abort_row, internal_of, interface_of, fault_of, map_signal, initial_of}
use Rattle.place_plan.specs.RulesOfJournals.Roles.{program_in}
use Rattle.place_plan.specs.Drafts.DraftRules.{holds_step, step_in_range, verdict_in_range, abort_in_range}
use Rattle.caa_base.specs.Written.Limits.{IsValue}

-- q is right inside p, and t has a role there
abbrev pub LeadsInside : Plan → ℕ → ℕ → ℕ → Type 0
LeadsInside plan p t q = (around plan q ≡ p ∷ around plan p) × (member t (roles_of plan q) ≡ true)

-- places form a tree: each comes after those round it, who has a role in one has one in each round it, and an enter step leads
-- its maker into a place right inside, where it has a role
pub record IsTree (plan : Plan) : Type 0 where
  -- a place is numbered after the places round it
  pub above : (p q : ℕ) → member q (around plan p) ≡ true → q < p
  -- the places round p are its parent and those round the parent
  pub chain : (p q : ℕ) (qs : List ℕ) → around plan p ≡ q ∷ qs → around plan q ≡ qs
  -- a play has no place round it
  pub tops : (p : ℕ) → member p plan.plays ≡ true → around plan p ≡ []
  -- who has a role in a place has one in each place round it
  pub roles_in : (p q t : ℕ) → member p (around plan q) ≡ true → member t (roles_of plan q) ≡ true → member t (roles_of plan p) ≡ true
  -- each alternate of the use that an enter step names is right inside, and the maker of the step has a role there
  pub enters : (p t : ℕ) (x : Option ℕ) (n k : ℕ) → slice_get (program_in plan p t x).steps n ≡ Some (step.Enter k)
      → (q : ℕ) → member q (alternates_of plan p k) ≡ true → LeadsInside plan p t q

-- what the laws are proved of: such a tree, whose uses each role enters once and in order, whose objects are those of the places
-- inside too, whose numbers are in range and whose graphs are sound. Each closed plan is so
pub record IsPlayable (plan : Plan) : Type 0 where
  pub tree : IsTree plan
  -- plays: they rise, each place with nothing round it and a role is one, they have roles, and who plays is a participant
  pub rise : Rises 0 plan.plays
  pub topped : (p t : ℕ) → around plan p ≡ [] → member t (roles_of plan p) ≡ true → member p plan.plays ≡ true
  pub filled : (p : ℕ) → member p plan.plays ≡ true → is_empty (roles_of plan p) ≡ false
  pub known : (p t : ℕ) → member t (roles_of plan p) ≡ true → t < length plan.participants
  -- nested uses: the alternates of a use are right inside and know their use; they rise, and so do the uses
  pub placed : (p k c : ℕ) → member c (alternates_of plan p k) ≡ true → (around plan c ≡ p ∷ around plan p) × (nest_number plan c ≡ k)
  pub back : (p c : ℕ) → parent plan c ≡ Some p → member c (alternates_of plan p (nest_number plan c)) ≡ true
  pub in_row : (p k : ℕ) → Rises 0 (alternates_of plan p k)
  pub by_use : (p k l c d : ℕ) → k < l → member c (alternates_of plan p k) ≡ true → member d (alternates_of plan p l) ≡ true → c < d
  -- the body of each role of a nested place has the enter step of its use, each use has an alternate, and enter steps come in order
  pub leads : (p c t : ℕ) → parent plan c ≡ Some p → member t (roles_of plan c) ≡ true
      → (n : ℕ) × (slice_get (body_of plan p t).steps n ≡ Some (step.Enter (nest_number plan c)))
  pub offers : (p t n k : ℕ) → slice_get (body_of plan p t).steps n ≡ Some (step.Enter k) → is_empty (alternates_of plan p k) ≡ false
  pub in_order : (p t n m k l : ℕ) → n < m → slice_get (body_of plan p t).steps n ≡ Some (step.Enter k)
      → slice_get (body_of plan p t).steps m ≡ Some (step.Enter l) → k < l
  -- handlers enter nowhere
  pub plain : (p t x n k : ℕ) → slice_get (program_in plan p t (Some x)).steps n ≡ Some (step.Enter k) → ⊥
  -- objects: a place uses those of the places inside it, and those of its steps
  pub inherits : (p q o : ℕ) → member p (around plan q) ≡ true → uses plan q o ≡ true → uses plan p o ≡ true
  pub held : (p t : ℕ) (x : Option ℕ) (n : ℕ) (s : Step) → slice_get (program_in plan p t x).steps n ≡ Some s
      → holds_step (objects_of plan p) s ≡ true
  -- numbers are in range
  pub steps : (p t : ℕ) (x : Option ℕ) (n : ℕ) (s : Step) → slice_get (program_in plan p t x).steps n ≡ Some s
      → step_in_range (length plan.objects) (internal_of plan p).count s ≡ true
  pub says : (p t : ℕ) (x : Option ℕ) → verdict_in_range (interface_of plan p).count (program_in plan p t x).verdict ≡ true
  pub gives_up : (p t : ℕ) → abort_in_range (interface_of plan p).count (abort_row plan p t) ≡ true
  pub faults : (p t : ℕ) → member t (roles_of plan p) ≡ true → fault_of plan p < (internal_of plan p).count
  pub maps : (p q : ℕ) → parent plan q ≡ Some p
      → ((x : ℕ) → map_signal plan q x < (internal_of plan p).count)
      × ((nest_of plan q).undo < (internal_of plan p).count) × ((nest_of plan q).failure < (internal_of plan p).count)
  pub objects : (p o : ℕ) → uses plan p o ≡ true → o < length plan.objects
  pub valued : (o : ℕ) → IsValue (initial_of plan o)
  -- the graphs of each place are sound
  pub sound : (p : ℕ) → IsSound (internal_of plan p) × SetsHaveLeastCovers (internal_of plan p)
      × IsSound (interface_of plan p) × SetsHaveLeastCovers (interface_of plan p)
