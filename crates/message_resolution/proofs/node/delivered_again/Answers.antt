use Rattle.message_resolution.proofs.Repeated.{changes_nothing}
use Rattle.message_resolution.proofs.node.delivered_again.Goals as goal

pub returns : goal.returns
returns c = λ count me m past at. changes_nothing c.args._graph.now count me m past at
