-- What watchers saw.
use Rattle.std.specs.Prelude.{ℕ, ◌<◌, ◌≤◌, ◌^◌, List, [], ◌∷◌, length}
use Rattle.std.specs.List.{All}
use Rattle.place_plan.specs.Plans.PlanValue.{Plan}
use Rattle.caa_base.specs.Written.Limits.{IsValue}
use Rattle.journal_text.specs.declared.looks.seens.Seen.{Seen}

-- all looks, watch by watch, and how many there is memory for
pub record Looks : Type 0 where
  pub seens : List Seen
  pub room : ℕ

-- the watches don't fall, from this one on, and each look shows a value
abbrev pub InOrderFrom : ℕ → List Seen → Type 0
InOrderFrom low [] = Unit {0}
InOrderFrom low (s ∷ seens) = (low ≤ s.watch) × (s.ends < 2 ^ 64) × IsValue s.value × InOrderFrom s.watch seens

-- all looks that were made are so
abbrev pub AreInOrder : List Seen → Type 0
AreInOrder seens = InOrderFrom 0 seens

-- the watch of the last look, or this one where there is none
abbrev pub last_watch : ℕ → List Seen → ℕ
last_watch low [] = low
last_watch low (s ∷ seens) = last_watch s.watch seens

-- each look is one of a watch of the plan
abbrev pub AreOfPlan : Plan → List Seen → Type 0
AreOfPlan plan seens = All (λ s. s.watch < length plan.watches) seens

-- a look of a watch of the plan
pub record IsOfPlan (plan : Plan) (s : Seen) : Type 0 where
  pub watch : s.watch < length plan.watches
  pub ends : s.ends < 2 ^ 64
  pub value : IsValue s.value
