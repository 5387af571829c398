use Rattle.std.proofs.Common.{◌≡◌, map, take}
use Rattle.line_plant.proofs.names.object_names.Given as goal

abbrev pub invariant-loop-object : goal.invariant-loop-object
invariant-loop-object l = l.names.items ≡ map (λ o. o.name) (take l.object l.plan.objects)
