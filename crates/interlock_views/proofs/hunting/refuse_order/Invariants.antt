use Rattle.interlock_views.specs.Hunts.{HuntsOn}
use Rattle.interlock_views.proofs.hunting.refuse_order.Given as goal

abbrev pub invariant-loop-put : goal.invariant-loop-put
invariant-loop-put g l = HuntsOn l.fn.hunt l.hunt
