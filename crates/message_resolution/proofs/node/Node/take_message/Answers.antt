use Rattle.std.proofs.Common.{◌≡◌, ◌≢◌, ◌<◌, ℕ, true, subst, sym, Some, None, slice_set}
use Rattle.message_resolution.specs.contracts.node.Node.{the_view}
use Rattle.message_resolution.specs.declared.node.message.Message.{Message}
use Rattle.message_resolution.specs.declared.node.message.Message.TheVariants as message
use Rattle.message_resolution.specs.Members.LocalEvents.{receives}
use Rattle.message_resolution.specs.Members.Nodes.{Known, IsMessage, sender_of}
use Rattle.message_resolution.specs.inner.TakingIn.{TakesIn}
use Rattle.message_resolution.proofs.Knowing.TakingSteps.{takes_suspended, takes_resolved}
use Rattle.message_resolution.proofs.node.Node.take_message.Goals as goal

pub returns-in-Suspended : goal.returns-in-Suspended
returns-in-Suspended c =
    let base : Known = the_view c.self.inside in
    let from : ℕ = c.in-Suspended.from in
    let is : c.args.message ≡ message.Suspended from = c.in-Suspended.is in
    let from_in : from < base.count =
    subst (λ (k : Known). from < k.count) (sym c.self.view_is)
    (subst (λ (m : Message). IsMessage c.args.graph.now c.args.self.now.count m) is c.requires.in_range) in
    let other : from ≢ base.me =
    subst (λ (k : Known). from ≢ k.me) (sym c.self.view_is)
    (subst (λ (m : Message). sender_of m ≢ c.args.self.now.me) is c.requires.other) in
    subst
    (λ (old : Known). TakesIn c.args.graph.now (receives c.args.message) old (record base { heard = slice_set base.heard from true }) None)
    c.self.view_is
    (subst (λ (m : Message). TakesIn c.args.graph.now (receives m) base (record base { heard = slice_set base.heard from true })
    None) (sym is) (takes_suspended c.args.graph.now base from from_in other))

pub returns-in-Resolved : goal.returns-in-Resolved
returns-in-Resolved c =
    let base : Known = the_view c.self-in-Resolved.inside in
    let from : ℕ = c.in-Resolved.from in
    let exception : ℕ = c.in-Resolved.exception in
    let is : c.args.message ≡ message.Resolved from exception = c.in-Resolved.is in
    let in_range : IsMessage c.args.graph.now base.count (message.Resolved from exception) =
    subst (λ (k : Known). IsMessage c.args.graph.now k.count (message.Resolved from exception)) (sym c.self-in-Resolved.view_is)
    (subst (λ (m : Message). IsMessage c.args.graph.now c.args.self.now.count m) is c.requires.in_range) in
    let other : from ≢ base.me =
    subst (λ (k : Known). from ≢ k.me) (sym c.self-in-Resolved.view_is)
    (subst (λ (m : Message). sender_of m ≢ c.args.self.now.me) is c.requires.other) in
    subst (λ (old : Known). TakesIn c.args.graph.now (receives c.args.message) old (record base { decided = Some exception }) None)
    c.self-in-Resolved.view_is
    (subst (λ (m : Message). TakesIn c.args.graph.now (receives m) base (record base { decided = Some exception }) None)
    (sym is) (takes_resolved c.args.graph.now base from exception in_range.0 in_range.1 other))
