use Rattle.std.proofs.Common.{◌≡◌, subst}
use Rattle.cover_table.specs.Cover.{CoverOrder, IsSound}
use Rattle.cover_table.proofs.Orders.{sound_sets}
use Rattle.exception_graph.proofs.graph.Graph.is_sound.Goals as goal

pub returns-clause-sets : goal.returns-clause-sets
returns-clause-sets c =
    let same : c.self.inside.table ≡ c.args.self.now = cc in
    let sound : IsSound c.args.self.now = subst (λ (o : CoverOrder). IsSound o) same c.is_sound.ensures.sound in
    sound_sets c.args.self.now sound
