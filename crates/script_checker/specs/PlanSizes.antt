-- How large the plan of a script is.
use Rattle.std.specs.Prelude.{◌≡◌, length}
use Rattle.place_plan.specs.Plans.PlanValue.{Plan}
use Rattle.place_plan.specs.Plans.Bound.{bound}
use Rattle.action_script.specs.Forms.ScriptValue.{Script}
use Rattle.script_checker.specs.declared.plan_counts.PlanCounts.{PlanCounts}
use Rattle.script_checker.specs.Compiled.{IsPlanOf}
use Rattle.script_checker.specs.declared.declared.Declared.{Declared}

-- how large a plan is
abbrev pub counts_of : Plan → PlanCounts
counts_of plan = record {
  participants = length plan.participants;
  objects = length plan.objects;
  places = length plan.places;
  bound = bound plan;
}

-- how large it is by what is declared
abbrev pub counts_so_far : Declared → PlanCounts
counts_so_far d = record { participants = length d.participants; objects = length d.objects; places = d.all_places; bound = d.whole_bound }

-- the script has a plan, which is so large
pub record HasCounts (script : Script) (counts : PlanCounts) : Type 0 where
  pub plan : Plan
  pub made : IsPlanOf script plan
  pub counted : counts ≡ counts_of plan
