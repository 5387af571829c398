use Rattle.interlock_views.proofs.Played.{hunts_still, hunts_then}
use Rattle.interlock_views.proofs.hunting.refuse_orders.Goals as goal

pub loop-base-init : goal.loop-base-init
loop-base-init g c = hunts_still c.args.hunt

pub loop-base-preserved : goal.loop-base-preserved
loop-base-preserved g c = hunts_then c.args.hunt c.loop-base.hunt _ c.loop-base.invariant c.in_ok-hunt.ensures
