use Rattle.std.proofs.Common.{Some, ap, refl, subst}
use Rattle.std.proofs.Math.Logic.{∥∥₁_map₂}
use Rattle.line_plant.specs.Devices.{constants_of}
use Rattle.caa_bridge.proofs.Alike.{made_alike}
use Rattle.caa_bridge.proofs.Kept.{keeps_constants}
use Rattle.caa_bridge.proofs.Still.{stands_still}
use Rattle.line_plant.specs.GivenUp.{StaysStill}
use Rattle.caa_bridge.proofs.serving.serve.Goals as goal

pub returns : goal.returns
returns g c =
    ∥∥₁_map₂ c.call-end.ensures.answer c.sent.ensures (λ answers carried.
    let made = c.in_ok-plan.device in
    let left = c.call-end.result.plant in
    let alike = made_alike left.plant made.plant (keeps_constants _ _ _ (λ same. ap (λ p. constants_of p.plant) same) answers) in record {
      device = made;
      made = c.in_ok-plan.ensures;
      source = c.in_ok-source.source;
      read = c.call-end.new.source;
      whole = ap (λ bytes. Some bytes) c.in_ok-source.ensures;
      answered = answers;
      wire = record { alike = alike; history = refl; carried = carried };
      still = λ plan. stands_still made.plant.fatal left.plant.asked made.plant.asked plan c.call-end.result.journal.entries
          c.in_ok-plan.ensures.unasked (subst (λ places. StaysStill places left.plant.asked) alike.fatal carried.still);
    })
