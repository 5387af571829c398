use Rattle.interlock_views.specs.Hunts.{HuntsOn}
use Rattle.interlock_views.proofs.hunting.refuse_orders.Given as goal

abbrev pub invariant-loop-base : goal.invariant-loop-base
invariant-loop-base g l = HuntsOn l.fn.hunt l.hunt
