use Rattle.std.proofs.Common.{arith}
use Rattle.message_resolution.proofs.Running.NodesFollow.{starts}
use Rattle.message_resolution.proofs.world.run.Run.open.Goals as goal

pub invariant_of-result : goal.invariant_of-result
invariant_of-result c =
    starts c.args.graph c.args.count c.in_ok-events.events.items c.in_ok-messages.messages.items c.in_ok-nodes.nodes.items _
    c.requires.few c.in_ok-events.ensures.items c.in_ok-messages.ensures.items c.in_ok-nodes.ensures.many
    c.in_ok-nodes.ensures.nodes (let room = c.in_ok-messages.ensures.capacity in omega arith)
