use Rattle.interlock_views.proofs.Played.{hunts_still, hunts_then}
use Rattle.interlock_views.proofs.hunting.play_orders.Goals as goal

pub loop-index-init : goal.loop-index-init
loop-index-init c = hunts_still c.args.hunt

pub loop-index-preserved : goal.loop-index-preserved
loop-index-preserved c = hunts_then c.args.hunt c.loop-index.ordered.hunt _ c.loop-index.invariant c.in_ok-ordered.ensures
