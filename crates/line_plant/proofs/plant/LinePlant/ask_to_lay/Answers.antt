use Rattle.std.proofs.Common.{subst}
use Rattle.std.proofs.Math.Logic.{∥∥₁_map}
use Rattle.line_plant.specs.Devices.{LayCame}
use Rattle.line_plant.proofs.Sending.{keeps_laid}
use Rattle.line_plant.proofs.Stopped.{still_laid}
use Rattle.line_plant.proofs.plant.LinePlant.ask_to_lay.Goals as goal

pub invariant_of-self : goal.invariant_of-self
invariant_of-self g c =
    let device = c.self.inside in
    let after = c.ask_lay-laid.new.wire in
    let came = c.ask_lay-laid.result in
    let lay =
    subst (λ names. LayCame g.S.Source g.K.Sink names device.wire after c.args.values.now came) c.as_slice.ensures.value
    c.ask_lay-laid.ensures.came in (
      c.self.invariant.0,
      ∥∥₁_map c.self.invariant.1 (λ k. (
        keeps_laid g.S.Source g.K.Sink device.names.items device.listened device.told c.then-self-inside.result device.wire after
            c.args.values.now c.args.drills.now c.args.puts came c.is_ok.result k.0 lay c.is_ok.ensures.value
            c.then-self-inside.ensures.0 c.then-self-inside.ensures.1,
        still_laid device.fatal.items g.S.Source g.K.Sink device.names.items device.told.asked c.then-self-inside.result.asked device.wire
            after c.args.values.now c.args.drills.now c.args.puts came c.is_ok.result lay c.is_ok.ensures.value
            c.then-self-inside.ensures.0 k.1,
      )),
    )
