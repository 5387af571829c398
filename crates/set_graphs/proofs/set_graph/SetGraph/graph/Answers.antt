use Rattle.std.proofs.Common.{subst}
use Rattle.set_graphs.specs.SetGraph.{CoversSubsets, JoinsUnions, SetOrder}
use Rattle.set_graphs.proofs.Numbers.{numbered}
use Rattle.set_graphs.proofs.Unions.{covers_subsets, joins_unions}
use Rattle.set_graphs.proofs.set_graph.SetGraph.graph.Goals as goal

pub returns-clause-covers : goal.returns-clause-covers
returns-clause-covers c =
    let keeps = c.self.invariant in
    subst (λ (g : SetOrder). CoversSubsets g.primitives g.most c.self.inside.graph) c.self.view_is
    (covers_subsets c.self.inside.primitives c.self.inside.most c.self.inside.graph keeps.order_of)

pub returns-clause-least : goal.returns-clause-least
returns-clause-least c =
    let keeps = c.self.invariant in
    subst (λ (g : SetOrder). JoinsUnions g.primitives g.most c.self.inside.graph) c.self.view_is
    (joins_unions c.self.inside.primitives c.self.inside.most c.self.inside.graph keeps.order_of)

pub returns-clause-numbered : goal.returns-clause-numbered
returns-clause-numbered c = numbered c.args.self.now.primitives c.args.self.now.most
