use Rattle.reach_tables.proofs.Checked.{least_same}
use Rattle.reach_tables.proofs.endings.is_least.Goals as goal

pub returns : goal.returns
returns c =
    least_same c.args.graph.now c.args.set.now c.least.result c.args.exception c.is_sound.ensures.sound.is_order c.least.ensures
    c.requires.exception
