use Rattle.message_resolution.proofs.Running.SettlingSteps.{row_more}
use Rattle.message_resolution.proofs.world.run.Run.deliver_to_all.Goals as goal

pub loop-to-preserved : goal.loop-to-preserved
loop-to-preserved c =
    row_more c.args.self.now c.loop-to.self c.deliver_due.new.self c.args.message c.loop-to.to c.loop-to.invariant c.deliver_due.ensures
