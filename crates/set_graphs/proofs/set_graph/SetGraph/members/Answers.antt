use Rattle.std.proofs.Common.{◌≡◌, ◌<◌, List, ℕ, length, slice_index, subst, ap, ◌∙◌, arith}
use Rattle.std.proofs.lemmas.List.{get_or_default}
use Rattle.set_graphs.specs.Sets.{exception_count, members_of, number_of}
use Rattle.set_graphs.specs.SetGraph.{SetOrder}
use Rattle.set_graphs.proofs.Numbers.{number-members}
use Rattle.set_graphs.proofs.set_graph.SetGraph.members.Goals as goal

pub returns-clause-back : goal.returns-clause-back
returns-clause-back c =
    let keeps = c.self.invariant in
    let n = c.self.inside.primitives in
    let most = c.self.inside.most in
    let all = c.self.inside.table.items in
    let at = c.args.exception in
    let set = c.index.result.now in
    subst (λ (g : SetOrder). at < g.order.count → number_of g.primitives g.most set ≡ at) c.self.view_is
    (λ below.
    let many = keeps.order_of.counts in
    let inside : at < exception_count n most = omega (arith, below, many) in
    let long = ap (λ (l : List ℕ). length l) keeps.stands_for in
    let read : set ≡ members_of n most at =
    c.index.ensures ∙
    (get_or_default all at set 0 (omega (arith, inside, long)) ∙ ap (λ (l : List ℕ). slice_index l at) keeps.stands_for) in
    ap (number_of n most) read ∙ number-members n most at inside)
    c.requires.in_range
