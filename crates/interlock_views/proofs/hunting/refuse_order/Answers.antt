use Rattle.interlock_views.proofs.Played.{hunts_still, hunts_then}
use Rattle.interlock_views.proofs.hunting.refuse_order.Goals as goal

pub loop-put-init : goal.loop-put-init
loop-put-init g c = hunts_still c.args.hunt

pub loop-put-preserved : goal.loop-put-preserved
loop-put-preserved g c = hunts_then c.args.hunt c.loop-put.hunt _ c.loop-put.invariant c.in_ok-hunt.ensures
