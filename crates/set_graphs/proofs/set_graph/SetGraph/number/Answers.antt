use Rattle.std.proofs.Common.{◌≡◌, ◌<◌, ◌≤◌, ◌^◌, List, ℕ, subst, ap, ◌∙◌, arith}
use Rattle.set_graphs.specs.Sets.{members_of, number_in, number_of, size_of}
use Rattle.set_graphs.specs.SetGraph.{SetOrder}
use Rattle.set_graphs.proofs.Numbers.{number_past, number_whole}
use Rattle.set_graphs.proofs.set_graph.SetGraph.number.Goals as goal

pub returns-clause-back : goal.returns-clause-back
returns-clause-back c =
    let keeps = c.self.invariant in
    let n = c.self.inside.primitives in
    let most = c.self.inside.most in
    let set = c.args.set in
    let at = c.number_in.result in
    let is : at ≡ number_of n most set =
    c.number_in.ensures ∙ ap (λ (l : List ℕ). number_in l set) (c.deref.ensures.value ∙ keeps.stands_for) in
    subst
    (λ (g : SetOrder). set < 2 ^ g.primitives → size_of g.primitives set ≤ g.most → (0 < at) × (at < g.order.count)
    × (members_of g.primitives g.most at ≡ set))
    c.self.view_is
    (λ low few.
    let number = number_whole n most set (record { some = c.requires.some; primitives = low; few = few }) in
    let many = keeps.order_of.counts in
    let some = number.some in
    let inside = number.in_range in
    (omega (arith, is, some), omega (arith, is, inside, many), ap (members_of n most) is ∙ number.members))
    c.requires.primitives

pub returns-clause-past : goal.returns-clause-past
returns-clause-past c =
    let keeps = c.self.invariant in
    let n = c.self.inside.primitives in
    let most = c.self.inside.most in
    let set = c.args.set in
    let at = c.number_in.result in
    let is : at ≡ number_of n most set =
    c.number_in.ensures ∙ ap (λ (l : List ℕ). number_in l set) (c.deref.ensures.value ∙ keeps.stands_for) in
    subst (λ (g : SetOrder). g.most < size_of g.primitives set → at ≡ 0) c.self.view_is (λ large. is ∙ number_past n most set large)
