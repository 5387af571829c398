use Rattle.interlock_views.specs.Hunts.{HuntsOn}
use Rattle.interlock_views.proofs.hunting.refuse_all.Given as goal

abbrev pub invariant-loop-later : goal.invariant-loop-later
invariant-loop-later g l = HuntsOn l.fn.hunt l.hunt
