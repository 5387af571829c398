use Rattle.interlock_views.specs.Hunts.{HuntsOn}
use Rattle.interlock_views.proofs.hunting.play_orders.Given as goal

abbrev pub invariant-loop-index : goal.invariant-loop-index
invariant-loop-index l = HuntsOn l.fn.hunt l.ordered.hunt
