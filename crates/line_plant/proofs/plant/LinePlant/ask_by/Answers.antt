use Rattle.std.proofs.Common.{ap, sym, subst, rules}
use Rattle.caa_base.specs.Written.Names.{name_at}
use Rattle.line_plant.specs.Lines.{asking_line}
use Rattle.line_plant.specs.Sent.{word_of}
use Rattle.line_plant.specs.Wires.{AskCame}
use Rattle.line_plant.specs.Devices.{WasNotDone}
use Rattle.line_plant.proofs.Asking.{was_not_done}
use Rattle.line_plant.proofs.plant.LinePlant.ask_by.Goals as goal

pub returns-in-Failed-clause-came : goal.returns-in-Failed-clause-came
returns-in-Failed-clause-came g c =
    let device = c.args.self.now in
    let text = asking_line (word_of c.args.back) device.wire.next (name_at device.names c.args.object) c.args.value in
    let came : AskCame g.S.Source g.K.Sink device.wire c.ask_for.new.self.wire text c.ask_for.result = search rules in
    subst (λ wire. WasNotDone g.S.Source g.K.Sink device.wire wire text) (sym (ap (λ d. d.wire) c.self-2.view_is))
    (was_not_done g.S.Source g.K.Sink device.wire c.ask_for.new.self.wire text c.ask_for.result came c.in-Failed.is)
