use Rattle.std.proofs.Common.{◌≡◌, ◌+◌, ℕ, arith, ap, sym, ◌∙◌, length, slice_index}
use Rattle.set_graphs.specs.Sets.{choose, exception_count}
use Rattle.set_graphs.proofs.Counted.{counts_fit, counts_more, exceptions_fit, exceptions_more}
use Rattle.set_graphs.proofs.count.count_exceptions.Goals as goal

pub add_primitive-requires : goal.add_primitive-requires
add_primitive-requires c size =
    let fits = c.requires.primitives_fit in
    let less = c.loop-primitive-test.true in
    let many = c.loop-primitive.invariant.many in
    let few =
    counts_fit c.loop-primitive._primitive c.loop-primitive.counts (omega (arith, fits, less)) (omega (arith, many))
    c.loop-primitive.invariant.counted size in
    omega (arith, few)

pub loop-primitive-preserved : goal.loop-primitive-preserved
loop-primitive-preserved c = record {
  many = c.add_primitive.auto.counts ∙ c.loop-primitive.invariant.many;
  counted =
      counts_more c.loop-primitive._primitive c.loop-primitive.counts c.add_primitive.new.counts c.loop-primitive.invariant.counted
      c.add_primitive.auto.counts c.add_primitive.ensures;
}

pub overflow_add-count-in-loop-size : goal.overflow_add-count-in-loop-size
overflow_add-count-in-loop-size c =
    let fits = c.requires.primitives_fit in
    let small = c.requires.most_fits in
    let less = c.loop-size-test.true in
    let past = c.loop-primitive-test.false in
    let most = c.loop-primitive.auto._primitive-end in
    let many = c.loop-primitive.invariant.many in
    let few =
    counts_fit c.loop-primitive._primitive c.loop-primitive.counts (omega (arith, fits, most)) (omega (arith, many))
    c.loop-primitive.invariant.counted (c.loop-size.size + 1) in
    let before = exceptions_fit c.args.primitives c.loop-size.size fits (omega (arith, less, small)) in
    let count = c.loop-size.invariant in
    omega (arith, few, before, count, small, less)

pub loop-size-preserved : goal.loop-size-preserved
loop-size-preserved c =
    let past = c.loop-primitive-test.false in
    let most = c.loop-primitive.auto._primitive-end in
    let all : c.loop-primitive._primitive ≡ c.args.primitives = omega (arith, past, most) in
    let many = c.loop-primitive.invariant.many in
    let small = c.requires.most_fits in
    let less = c.loop-size-test.true in
    let counted = c.loop-primitive.invariant.counted (c.loop-size.size + 1) (omega (arith, many, less, small)) in
    let here = ap (λ (n : ℕ). length (choose n (c.loop-size.size + 1))) all in
    ap (λ (k : ℕ). k + slice_index c.loop-primitive.counts (c.loop-size.size + 1)) c.loop-size.invariant
    ∙
    (ap (λ (k : ℕ). exception_count c.args.primitives c.loop-size.size + k) (counted ∙ here)
    ∙ sym (exceptions_more c.args.primitives c.loop-size.size))
