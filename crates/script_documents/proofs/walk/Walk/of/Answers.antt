use Rattle.std.proofs.Common.{arith}
use Rattle.script_documents.proofs.Places.{begins}
use Rattle.script_documents.proofs.walk.Walk.of.Goals as goal

pub invariant_of-result : goal.invariant_of-result
invariant_of-result c = (c.requires, omega arith, begins c.args.text.now, omega arith, omega arith)
