use Rattle.std.proofs.Common.{◌≡◌, map, take}
use Rattle.place_plan.proofs.plans.plan.Plan.initials.Given as goal

abbrev pub invariant-loop-object : goal.invariant-loop-object
invariant-loop-object l = l.values.items ≡ map (λ o. o.initial) (take l.object l.self.objects)
