-- A turn lock, as its owner sees it.
use Rattle.atomic_table.specs.Seated.{TableId}
use Rattle.place_plan.specs.Plans.PlanValue.{Plan}
use Rattle.action_manager.specs.declared.lock.Lock.{Lock}

-- its table, which tells it from other locks
abbrev pub id_of : {H : Type 0} → Lock H → TableId
id_of lock = lock.table.shared.table_id

-- what was handed in, as it was then
abbrev pub home_at : {H : Type 0} → Lock H → H
home_at lock = lock.table.shared.key.home.value

-- the plan that was handed in with it
abbrev pub plan_at : {H : Type 0} → Lock H → Plan
plan_at lock = lock.table.shared.key.plan.value
