use Rattle.std.proofs.Common.{◌∙◌, ap, sym, true≢false}
use Rattle.std.proofs.Math.Logic.{∥∥₁_map}
use Rattle.line_plant.specs.GivenUp.{says_failed}
use Rattle.line_plant.proofs.Sending.{keeps_entered, keeps_stopped}
use Rattle.line_plant.proofs.Stopped.{still_entered}
use Rattle.line_plant.proofs.plant.LinePlantPlant.entered.Goals as goal

-- the device is given up
pub invariant_of-self : goal.invariant_of-self
invariant_of-self g c =
    let device = c.self.inside in
    let told = c.then-self-inside.result in
    let after = c.stop.new.self in
    let stopped = c.stop.ensures in (
      c.self.invariant.0,
      ∥∥₁_map c.self.invariant.1 (λ k. (
        keeps_stopped g.S.Source g.K.Sink device.names.items device.listened told device.wire after
            (keeps_entered g.S.Source g.K.Sink device.names.items device.listened device.told told device.wire c.args.entry.now k.0
            c.then-self-inside.ensures.0 c.then-self-inside.ensures.1) stopped,
        still_entered device.fatal.items device.told.asked told.asked c.args.entry.now device.wire after c.then-self-inside.ensures.0
            (λ _. stopped.ended) (λ _. stopped.ended) k.1,
      )),
    )

-- it is not
pub invariant_of-self-else-says_failed : goal.invariant_of-self-else-says_failed
invariant_of-self-else-says_failed g c =
    let device = c.self.inside in
    let told = c.then-self-inside.result in
    let silent = sym c.says_failed.ensures ∙ c.if-says_failed.false in
    let same = ap (λ places. says_failed places c.args.entry.now) c.as_slice.ensures.value in (
      c.self.invariant.0,
      ∥∥₁_map c.self.invariant.1 (λ k. (
        keeps_entered g.S.Source g.K.Sink device.names.items device.listened device.told told device.wire c.args.entry.now k.0
            c.then-self-inside.ensures.0 c.then-self-inside.ensures.1,
        still_entered device.fatal.items device.told.asked told.asked c.args.entry.now device.wire device.wire c.then-self-inside.ensures.0
            (λ says. absurd (true≢false (sym says ∙ sym same ∙ silent))) (λ stopped. stopped) k.1,
      )),
    )
