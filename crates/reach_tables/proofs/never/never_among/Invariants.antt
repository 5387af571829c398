use Rattle.std.proofs.Common.{ℕ, IsFalse}
use Rattle.std.specs.List.{All}
use Rattle.reach_tables.specs.ReachTable.{can_resolve}
use Rattle.reach_tables.proofs.never.never_among.Given as goal

abbrev pub invariant-loop-exception : goal.invariant-loop-exception
invariant-loop-exception l = All (λ (x : ℕ). IsFalse (can_resolve l.graph l.groups x)) l.never.items
