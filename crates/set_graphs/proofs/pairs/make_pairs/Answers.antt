use Rattle.std.proofs.Common.{List, ℕ, All, length, ◌<◌, subst, sym}
use Rattle.set_graphs.proofs.Lowered.{pairs_in_range}
use Rattle.set_graphs.proofs.pairs.make_pairs.Goals as goal

pub returns-clause-in_range : goal.returns-clause-in_range
returns-clause-in_range c =
    let few = c.loop-exception.auto.exception-end in
    subst (λ (l : List (ℕ × ℕ)). All (λ (p : ℕ × ℕ). (p.0 < length c.args.table.now) × (p.1 < length c.args.table.now)) l)
    (sym c.loop-exception.invariant) (pairs_in_range c.args.primitives c.args.table.now c.loop-exception.exception few)
