use Rattle.std.proofs.Common.{◌≡◌, map, take, slice_index_or}
use Rattle.place_plan.proofs.plans.unfolding.cast_of.Given as goal

abbrev pub invariant-loop-role : goal.invariant-loop-role
invariant-loop-role l = l.cast.items ≡ map (λ role. slice_index_or l.who role 0) (take l.role-index l.role-items)
