use Rattle.std.proofs.Common.{◌≢◌, ◌<◌, true, Bool, subst, sym, Some, slice_set}
use Rattle.message_resolution.specs.contracts.node.Node.{the_view}
use Rattle.message_resolution.specs.declared.node.message.Message.TheVariants as message
use Rattle.message_resolution.specs.Members.LocalEvents.{receives}
use Rattle.message_resolution.specs.Members.Nodes.{Known}
use Rattle.message_resolution.specs.inner.TakingIn.{Suspends, TakesIn}
use Rattle.message_resolution.proofs.Knowing.TakingSteps.{takes_raised}
use Rattle.message_resolution.proofs.node.Node.take_raised.Goals as goal

pub returns : goal.returns
returns c =
    let base : Known = the_view c.self.inside in
    let from = c.args.from in
    let from_in : from < base.count = subst (λ (k : Known). from < k.count) (sym c.self.view_is) c.requires.member in
    let other : from ≢ base.me = subst (λ (k : Known). from ≢ k.me) (sym c.self.view_is) c.requires.other in
    let does =
    subst
    (λ (g : Bool). Suspends (record base {
      heard = slice_set base.heard from true;
      cover = Some c.cover_with.result;
      has_greater =
          g;
    }) c.suspend.new.self c.suspend.result)
    c.is_below-self-inside.ensures c.suspend.ensures in
    subst
    (λ (old : Known). TakesIn c.args.graph.now (receives (message.Raised from c.args.exception)) old c.suspend.new.self c.suspend.result)
    c.self.view_is
    (takes_raised c.args.graph.now base from c.args.exception c.cover_with.result from_in c.requires.in_range other c.cover_with.ensures
    c.suspend.new.self c.suspend.result does)
