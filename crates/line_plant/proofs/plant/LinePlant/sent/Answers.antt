use Rattle.std.proofs.Common.{subst}
use Rattle.std.proofs.Math.Logic.{∥∥₁_map}
use Rattle.line_plant.specs.Devices.{WireCarried}
use Rattle.line_plant.proofs.Stopped.{sent_stop}
use Rattle.line_plant.proofs.plant.LinePlant.sent.Goals as goal

pub returns : goal.returns
returns g c =
    let device = c.self.inside in
    subst (λ device. ∥ WireCarried g.S.Source g.K.Sink device ∥₁) c.self.view_is
    (∥∥₁_map c.self.invariant.1 (λ k. record {
      bytes = k.0.bytes;
      stop = k.0.stop;
      answers = k.0.answers;
      sent = k.0.sent;
      held = k.0.held;
      rest = k.0.rest;
      heard = k.0.heard;
      still = k.1.still;
      stopped = λ told uncut. sent_stop g.S.Source g.K.Sink device.names.items device.listened device.told device.wire k.0 (k.1.stopped told) uncut;
    }))
