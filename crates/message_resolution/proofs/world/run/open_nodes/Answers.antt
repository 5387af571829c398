use Rattle.std.proofs.Common.{◌∷◌, [], length-append, subst, sym, ◌∙◌, arith}
use Rattle.message_resolution.specs.Members.Nodes.{Known}
use Rattle.message_resolution.specs.inner.Runs.{AreFreshNodes}
use Rattle.message_resolution.proofs.Running.NodesFollow.{fresh_more}
use Rattle.message_resolution.proofs.world.run.open_nodes.Goals as goal

pub loop-me-preserved : goal.loop-me-preserved
loop-me-preserved c =
    let node : Known = c.in_ok-open.field-0 in
    let before = c.loop-me.invariant in
    let items = c.push_reserved.ensures.items in
    let many = before.many in
    let longer = length-append c.loop-me.nodes.items (node ∷ []) in
    record {
      many = rw items (omega arith);
      room = c.push_reserved.ensures.capacity ∙ before.room;
      fresh =
          subst (AreFreshNodes c.args.count) (sym items)
          (fresh_more c.args.count c.loop-me.nodes.items node before.fresh (c.in_ok-open.ensures.me ∙ sym many)
          c.in_ok-open.ensures.count c.in_ok-open.ensures.stands);
    }
