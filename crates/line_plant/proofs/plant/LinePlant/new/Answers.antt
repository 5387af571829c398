use Rattle.std.proofs.Common.{◌∙◌, sym, arith}
use Rattle.line_plant.proofs.Sending.{keeps_first}
use Rattle.line_plant.proofs.Stopped.{still_first}
use Rattle.line_plant.proofs.plant.LinePlant.new.Goals as goal

pub invariant_of-result : goal.invariant_of-result
invariant_of-result g c = (
  (λ n low. absurd (omega arith)),
  ∣ (
    keeps_first g.S.Source g.K.Sink c.args.names.items c.over-2.result c.over.result c.new.result c.over.ensures.0
        (c.over.ensures.1 ∙ sym c.new.ensures.commands) (c.over-2.ensures.1 ∙ sym c.new.ensures.answers) c.new.ensures.first
        c.new.ensures.unstopped,
    still_first c.args.fatal.items c.over.result.asked c.new.result c.over.ensures.0,
  ) ∣₁,
)
