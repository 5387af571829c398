use Rattle.std.proofs.Common.{◌≡◌, List, ℕ, length, ap, ◌∙◌, arith}
use Rattle.set_graphs.specs.Sets.{pairs_below, pairs_of}
use Rattle.set_graphs.proofs.Unions.{only_memory}
use Rattle.set_graphs.proofs.set_graph.SetGraph.make.Goals as goal

pub unreachable-requires : goal.unreachable-requires
unreachable-requires c =
    let n = c.args.primitives in
    let pairs : c.deref-2.result.now ≡ pairs_of n c.args.most =
    c.deref-2.ensures.value ∙
    (c.in_ok-pairs.ensures.pairs ∙ ap (λ (all : List ℕ). pairs_below n all (length all)) (c.deref.ensures.value ∙ c.in_ok-table.ensures)) in
    let few = c.if-count.false in
    c.in_default.not-OutOfMemory
    (only_memory n c.args.most c.count_exceptions-count.result c.deref-2.result.now c.build.result c.in-Err.refusal
    c.count_exceptions-count.ensures pairs (omega (arith, few)) c.in-Err.is c.build.ensures.too_many c.build.ensures.cycle
    c.build.ensures.no_least)
