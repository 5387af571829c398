use Rattle.interlock_views.proofs.Played.{hunts_still}
use Rattle.interlock_views.proofs.hunting.play_order.Goals as goal

pub returns-then-is_over : goal.returns-then-is_over
returns-then-is_over c = hunts_still c.args.ordered.hunt
