use Rattle.std.proofs.Common.{◌≡◌, ◌∷◌, ◌++◌, [], arith, rules}
use Rattle.std.proofs.Math.Logic.{∥∥₁_map}
use Rattle.caa_base.specs.Written.Names.{name_at}
use Rattle.caa_base.specs.declared.outside.plant.Asked.TheVariants as asked
use Rattle.line_plant.specs.Answers.{is_well}
use Rattle.line_plant.specs.Lines.{asking_line}
use Rattle.line_plant.specs.Wires.{AskCame}
use Rattle.line_plant.specs.Sent.{word_of}
use Rattle.line_plant.proofs.Sending.{keeps_put}
use Rattle.line_plant.proofs.Stopped.{still_put}
use Rattle.line_plant.proofs.plant.LinePlant.ask_for.Goals as goal

pub invariant_of-self : goal.invariant_of-self
invariant_of-self g c =
    let device = c.self.inside in
    let after = c.ask_put-answer.new.wire in
    let came = c.ask_put-answer.result in
    let number = device.wire.next in
    let asks : AskCame g.S.Source g.K.Sink device.wire after
    (asking_line (word_of c.args.back) number (name_at device.names.items c.args.object) c.args.value) came = search rules in
    let all : c.then-self-inside.result.asked ≡ device.told.asked ++ asked.Put c.args.object c.args.value c.args.back (is_well came) ∷ [] =
    search rules in (
      (λ n low. let room = c.self.invariant.0 n low in omega arith),
      ∥∥₁_map c.self.invariant.1 (λ k. (
        keeps_put g.S.Source g.K.Sink device.names.items device.listened device.told c.then-self-inside.result device.wire after
            c.args.object c.args.value c.args.back came k.0 asks all c.then-self-inside.ensures.1,
        still_put device.fatal.items g.S.Source g.K.Sink device.told.asked c.then-self-inside.result.asked device.wire after
            (asking_line (word_of c.args.back) number (name_at device.names.items c.args.object) c.args.value)
            c.args.object c.args.value c.args.back came asks all k.1,
      )),
    )
