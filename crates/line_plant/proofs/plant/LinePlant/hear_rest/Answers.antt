use Rattle.std.proofs.Math.Logic.{∥∥₁_map}
use Rattle.line_plant.proofs.Sending.{keeps_heard}
use Rattle.line_plant.proofs.Stopped.{still_heard}
use Rattle.line_plant.proofs.plant.LinePlant.hear_rest.Goals as goal

pub invariant_of-self : goal.invariant_of-self
invariant_of-self g c =
    let device = c.self.inside in
    let after = c.hear_rest.new.self in (
      c.self.invariant.0,
      ∥∥₁_map c.self.invariant.1 (λ k. (
        keeps_heard g.S.Source g.K.Sink device.names.items device.listened device.told device.wire after k.0 c.hear_rest.ensures c.if-self.true,
        still_heard device.fatal.items device.told.asked device.wire after c.hear_rest.ensures k.1,
      )),
    )
