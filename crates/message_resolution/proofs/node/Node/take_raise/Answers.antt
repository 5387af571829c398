use Rattle.std.proofs.Common.{subst, Some}
use Rattle.message_resolution.specs.contracts.node.Node.{the_view}
use Rattle.message_resolution.specs.declared.node.message.Message.TheVariants as message
use Rattle.message_resolution.specs.declared.node.state.State.TheVariants.{Raised}
use Rattle.message_resolution.specs.Members.LocalEvents.{raises}
use Rattle.message_resolution.specs.Members.Nodes.{Known}
use Rattle.message_resolution.specs.inner.TakingIn.{TakesIn}
use Rattle.message_resolution.proofs.Knowing.TakingSteps.{takes_raise}
use Rattle.message_resolution.proofs.node.Node.take_raise.Goals as goal

pub returns : goal.returns
returns c =
    let base : Known = the_view c.self.inside in
    subst
    (λ (old : Known). TakesIn c.args.graph.now (raises c.args.exception) old
    (record base { state = Raised c.args.exception; cover = Some c.cover_with.result }) (Some (message.Raised base.me c.args.exception)))
    c.self.view_is (takes_raise c.args.graph.now base c.args.exception c.cover_with.result c.requires.in_range c.cover_with.ensures)
