use Rattle.std.proofs.Common.{◌<◌, [], ◌∷◌, ℕ, arith}
use Rattle.std.proofs.lemmas.List.Elements.{All-cons, All-nil}
use Rattle.base_tests.proofs.network.tree.Goals as goal

pub build-requires-clause-in_range : goal.build-requires-clause-in_range
build-requires-clause-in_range c =
    let P = λ (p : ℕ × ℕ). (p.0 < 4) × (p.1 < 4) in
    All-cons P (1, 2) ((1, 3) ∷ []) (omega arith, omega arith) (All-cons P (1, 3) [] (omega arith, omega arith) (All-nil P))
