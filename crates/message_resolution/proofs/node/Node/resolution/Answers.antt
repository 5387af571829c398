use Rattle.std.proofs.Common.{◌≡◌, true, None, subst, sym, ◌∙◌, ap}
use Rattle.std.specs.List.{list_all}
use Rattle.message_resolution.specs.contracts.node.Node.{the_view}
use Rattle.message_resolution.specs.Members.Nodes.{Known}
use Rattle.message_resolution.specs.inner.TakingIn.{IsResolutionOf}
use Rattle.message_resolution.proofs.Knowing.Resolving.{none_not_raised, none_greater, none_again, none_unheard, some_cover}
use Rattle.message_resolution.proofs.node.Node.resolution.Goals as goal
use Rattle.message_resolution.proofs.node.Node.resolution.Goals.{then-self-via-then-self, then-self-via-else-self+then-self-2, then-self-via-else-self+else-self-2+then-not-has_heard_all}

pub returns-in_default : goal.returns-in_default
returns-in_default c =
    let base : Known = the_view c.self.inside in
    subst (λ (n : Known). IsResolutionOf n None) c.self.view_is (none_not_raised base c.in_default.not-Raised)

pub returns-then-self : goal.returns-then-self
returns-then-self c =
    let base : Known = the_view c.self.inside in
    subst (λ (n : Known). IsResolutionOf n None) c.self.view_is (elim c.then-self.branch [
      | then-self-via-then-self w ↦ none_greater base w.if-self.true
      | then-self-via-else-self+then-self-2 w ↦ none_again base w.if-self-2.true
      | then-self-via-else-self+else-self-2+then-not-has_heard_all w ↦ none_unheard base
          (ap (λ (k : Known). list_all (λ b. b) k.heard) c.self.view_is ∙ sym w.has_heard_all.ensures ∙ w.if-not-has_heard_all.true)
    ])

pub returns : goal.returns
returns c =
    let base : Known = the_view c.self.inside in
    let all : list_all (λ b. b) base.heard ≡ true =
    ap (λ (k : Known). list_all (λ b. b) k.heard) c.self.view_is ∙ sym c.has_heard_all.ensures ∙ c.if-not-has_heard_all.false in
    subst (λ (n : Known). IsResolutionOf n c.self.inside.cover) c.self.view_is
    (some_cover base c.in-Raised.field-0 c.in-Raised.is c.if-self.false c.if-self-2.false all)
