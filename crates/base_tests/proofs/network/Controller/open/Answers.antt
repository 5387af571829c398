use Rattle.std.proofs.Common.{[]}
use Rattle.base_tests.proofs.network.Controller.open.Goals as goal

pub invariant_of-result : goal.invariant_of-result
invariant_of-result c = (([], c.in_ok-node.ensures.stands c.args.graph), c.in_ok-node.ensures.me, c.in_ok-node.ensures.count)
