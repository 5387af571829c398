use Rattle.exception_graph.proofs.GraphCauses.{order-same}
use Rattle.exception_graph.proofs.graph.one_order.Goals as goal

pub returns : goal.returns
returns c = order-same
