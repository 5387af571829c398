use Rattle.std.proofs.Math.Logic.{∥∥₁_map}
use Rattle.line_plant.proofs.Sending.{keeps_stopped}
use Rattle.line_plant.proofs.Stopped.{still_stopped}
use Rattle.line_plant.proofs.plant.LinePlant.stop.Goals as goal

pub invariant_of-self : goal.invariant_of-self
invariant_of-self g c =
    let device = c.self.inside in
    let after = c.stop.new.self in
    let stopped = c.stop.ensures in (
      c.self.invariant.0,
      ∥∥₁_map c.self.invariant.1 (λ k. (
        keeps_stopped g.S.Source g.K.Sink device.names.items device.listened device.told device.wire after k.0 stopped,
        still_stopped device.fatal.items device.told.asked device.wire after stopped.ended k.1,
      )),
    )
