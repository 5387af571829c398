use Rattle.std.proofs.Common.{◌<◌, subst, sym}
use Rattle.message_resolution.specs.Histories.Worlds.{IsNodeAt}
use Rattle.message_resolution.specs.inner.Runs.{RunView}
use Rattle.message_resolution.proofs.Running.NodesFollow.{node_at}
use Rattle.message_resolution.proofs.world.run.Run.node.Goals as goal

pub returns : goal.returns
returns c =
    let run = c.self.inside in
    let by_in = subst (λ (v : RunView). c.args.by < v.count) (sym c.self.view_is) c.requires in
    subst (λ (v : RunView). IsNodeAt v.order v.count v.past c.args.by c.index.result.now) c.self.view_is
    (node_at run.graph run.count _ run.messages.items run.nodes.items _ c.self.invariant c.args.by c.index.result.now by_in c.index.ensures)
