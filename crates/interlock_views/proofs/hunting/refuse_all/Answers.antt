use Rattle.interlock_views.proofs.Played.{hunts_still, hunts_then}
use Rattle.interlock_views.proofs.hunting.refuse_all.Goals as goal

pub loop-later-init : goal.loop-later-init
loop-later-init g c = hunts_still c.args.hunt

pub loop-later-preserved : goal.loop-later-preserved
loop-later-preserved g c = hunts_then c.args.hunt c.loop-later.hunt _ c.loop-later.invariant c.in_ok-hunt.ensures
