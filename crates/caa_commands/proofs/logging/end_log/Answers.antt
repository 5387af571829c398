use Rattle.std.proofs.Common.{refl}
use Rattle.caa_commands.proofs.LoggedCalls.{left_off}
use Rattle.caa_commands.proofs.logging.end_log.Goals as goal

pub returns-in_default : goal.returns-in_default
returns-in_default g c = record {
  opened = refl;
  ends = λ plan journal seens tells ends. left_off g.K.Sink c.args.log.now plan journal c.args.finding.now _ refl tells;
}

pub returns-then-eq-clause-ends : goal.returns-then-eq-clause-ends
returns-then-eq-clause-ends g c = λ plan journal seens tells ends. left_off g.K.Sink c.args.log.now plan journal c.args.finding.now _ refl tells

pub returns-in_default-2 : goal.returns-in_default-2
returns-in_default-2 g c = record {
  opened = refl;
  ends = λ plan journal seens tells ends. left_off g.K.Sink c.args.log.now plan journal c.args.finding.now _ refl tells;
}
