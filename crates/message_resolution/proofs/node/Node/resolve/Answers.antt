use Rattle.std.proofs.Common.{true, Some, subst, sym}
use Rattle.message_resolution.specs.contracts.node.Node.{the_view}
use Rattle.message_resolution.specs.declared.node.message.Message.TheVariants as message
use Rattle.message_resolution.specs.Members.Nodes.{Known}
use Rattle.message_resolution.specs.inner.TakingIn.{IsResolutionOf, Resolves}
use Rattle.message_resolution.proofs.Knowing.Resolving.{resolves_some}
use Rattle.message_resolution.proofs.node.Node.resolve.Goals as goal

pub returns-in-Some : goal.returns-in-Some
returns-in-Some c =
    let base : Known = the_view c.self.inside in
    let e = c.in-Some.exception in
    let found : IsResolutionOf base (Some e) = subst (λ (n : Known). IsResolutionOf n (Some e)) (sym c.self.view_is) c.in-Some.ensures in
    subst (λ (old : Known). Resolves old (record base { has_resolved = true; decided = Some e }) (Some (message.Resolved base.me e)))
    c.self.view_is (resolves_some base e found)
