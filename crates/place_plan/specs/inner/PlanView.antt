-- The plan that the fields keep.
use Rattle.std.specs.Prelude.{◌≡◌}
use Rattle.place_plan.specs.Plans.PlanValue.{Plan}
use Rattle.place_plan.specs.Plans.Bound.{bound}
use Rattle.place_plan.specs.Plans.Closed.{IsClosed}
use Rattle.place_plan.specs.declared.plans.plan.Plan.TheInside.{Inside}

-- a plan has the lists that the fields keep; the bound is no part of it
abbrev pub plan_view : Inside → Plan
plan_view p = record {
  participants = p.participants;
  objects = p.objects;
  graphs = p.graphs;
  actions = p.actions;
  places = p.places;
  plays = p.plays;
  drills = p.drills;
  watches = p.watches;
}

-- the plan is the unfolding of a draft that breaks no rule, and its bound is kept
pub record IsKept (p : Inside) : Type 0 where
  pub closed : IsClosed (plan_view p)
  pub bound : p.bound ≡ bound (plan_view p)
