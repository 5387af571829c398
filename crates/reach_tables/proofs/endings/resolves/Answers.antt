-- What is kept of numbers that are in range is in range.
use Rattle.std.proofs.Common.{◌∙◌, ℕ, ◌<◌, sym, subst}
use Rattle.std.specs.List.{All}
use Rattle.std.proofs.lemmas.List.Elements.{All-filter}
use Rattle.cover_table.specs.Cover.{covers}
use Rattle.reach_tables.proofs.endings.resolves.Goals as goal

pub is_least-requires-clause-in_range : goal.is_least-requires-clause-in_range
is_least-requires-clause-in_range c =
    let graph = c.args.graph.now in
    subst (All (λ (r : ℕ). r < graph.count)) (sym (c.deref.ensures.value ∙ c.in_ok-those.ensures))
    (All-filter (covers graph c.args.exception) (λ (r : ℕ). r < graph.count) c.args.group.now c.requires.group)
