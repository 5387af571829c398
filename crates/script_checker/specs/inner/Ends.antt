-- Why the graph or the action that a line ends is refused.
use Rattle.std.specs.Prelude.{◌≡◌, ℕ, List, true, false}
use Rattle.cover_table.specs.Cover.{CoverOrder, IsSound}
use Rattle.exception_graph.specs.Chains.{IsOrderOf, IsFirstInCycle, IsFirstUnjoined}
use Rattle.caa_base.specs.Written.Lists.{is_empty}
use Rattle.place_plan.specs.Drafts.DraftRules.{roles_enter}
use Rattle.script_checker.specs.declared.check_error.CheckCause.{CheckCause}
use Rattle.script_checker.specs.declared.check_error.CheckCause.TheVariants as cause
use Rattle.script_checker.specs.declared.open_action.OpenAction.{OpenAction}
use Rattle.script_checker.specs.DeclaredSoFar.{nest_rows}

-- the cause of a graph of so many exceptions and these pairs
abbrev pub IsGraphRefusal : ℕ → List (ℕ × ℕ) → CheckCause → Type 0
IsGraphRefusal count pairs (cause.Cycle at) = IsFirstInCycle count pairs at
IsGraphRefusal count pairs (cause.NoLeast a b) = IsFirstUnjoined count pairs a b
IsGraphRefusal count pairs cause.OutOfMemory = Unit {0}
IsGraphRefusal count pairs _ = ⊥

-- it has none
pub record IsFaultless (count : ℕ) (pairs : List (ℕ × ℕ)) : Type 0 where
  pub acyclic : (at : ℕ) → ¬ (IsFirstInCycle count pairs at)
  pub joined : (a b : ℕ) → ¬ (IsFirstUnjoined count pairs a b)

-- the order that the pairs make, which is sound
pub record IsOrdered (count : ℕ) (pairs : List (ℕ × ℕ)) (graph : CoverOrder) : Type 0 where
  pub order : IsOrderOf count pairs graph
  pub sound : IsSound graph
  pub faultless : IsFaultless count pairs

-- the cause of an action
abbrev pub IsActionRefusal : OpenAction → CheckCause → Type 0
IsActionRefusal a cause.RoleUnfilled = is_empty a.roles ≡ true
IsActionRefusal a cause.NestOrder = (is_empty a.roles ≡ false) × (roles_enter (nest_rows a.nests) 0 a.role_rows ≡ false)
IsActionRefusal a cause.OutOfMemory = Unit {0}
IsActionRefusal a _ = ⊥

-- an action has none
pub record IsUnrefused (a : OpenAction) : Type 0 where
  pub some_role : is_empty a.roles ≡ false
  pub in_order : roles_enter (nest_rows a.nests) 0 a.role_rows ≡ true
