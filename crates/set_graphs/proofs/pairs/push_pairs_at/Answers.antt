use Rattle.std.proofs.Common.{◌≢◌, ◌-◌, ◌*◌, ◌%◌, ◌^◌, ◌<◌, ℕ, arith, ap, sym, ◌∙◌, slice_index}
use Rattle.std.proofs.lemmas.Bool.{both_ways}
use Rattle.cover_table.specs.Cover.{has_bit}
use Rattle.set_graphs.proofs.Lowered.{member_fits, no_pair, pair_added}
use Rattle.set_graphs.proofs.pairs.push_pairs_at.Goals as goal

pub loop-bit-preserved-in-Continue-1 : goal.loop-bit-preserved-in-Continue-1
loop-bit-preserved-in-Continue-1 c =
    let set = slice_index c.args.table.now c.args.exception in
    let bit = c.loop-bit.bit in
    let some : 0 < bit = grind (arith, c.loop-bit-test.true) in
    let had = sym c.has_bit.ensures ∙ c.if-has_bit.true in
    let fits = c.requires.primitives_fit in
    let most = c.loop-bit.auto.bit in
    let taken = member_fits set (bit - 1) (omega (arith, fits, most)) had in
    let lower = set - 1 * 2 ^ (bit - 1) % 2 ^ 128 in
    let apart : lower ≢ 0 = c.if-lower-ne0.true in
    pair_added c.args.table.now c.args.exception bit set lower _ _ _ c.number_in.result some c.loop-bit.invariant had
    (omega (arith, apart)) (ap (λ (m : ℕ). set - m) taken.0) c.number_in.ensures c.in_ok-push.ensures.items

pub loop-bit-preserved-else-lower-ne0 : goal.loop-bit-preserved-else-lower-ne0
loop-bit-preserved-else-lower-ne0 c =
    let set = slice_index c.args.table.now c.args.exception in
    let bit = c.loop-bit.bit in
    let some : 0 < bit = grind (arith, c.loop-bit-test.true) in
    let had = sym c.has_bit.ensures ∙ c.if-has_bit.true in
    let fits = c.requires.primitives_fit in
    let most = c.loop-bit.auto.bit in
    let taken = member_fits set (bit - 1) (omega (arith, fits, most)) had in
    no_pair c.args.table.now c.args.exception bit set _ _ some c.loop-bit.invariant
    (λ _. sym (ap (λ (m : ℕ). set - m) taken.0) ∙ c.if-lower-ne0.false)

pub loop-bit-preserved : goal.loop-bit-preserved
loop-bit-preserved c =
    let set = slice_index c.args.table.now c.args.exception in
    let bit = c.loop-bit.bit in
    let some : 0 < bit = grind (arith, c.loop-bit-test.true) in
    no_pair c.args.table.now c.args.exception bit set _ _ some c.loop-bit.invariant
    (λ had. absurd (both_ways (has_bit set (bit - 1)) (sym c.has_bit.ensures ∙ c.if-has_bit.false) had))

pub overflow_sub-lower : goal.overflow_sub-lower
overflow_sub-lower c =
    let set = slice_index c.args.table.now c.args.exception in
    let bit = c.loop-bit.bit in
    let had = sym c.has_bit.ensures ∙ c.if-has_bit.true in
    let fits = c.requires.primitives_fit in
    let most = c.loop-bit.auto.bit in
    let taken = member_fits set (bit - 1) (omega (arith, fits, most)) had in
    let fit = taken.0 in
    let under = taken.1 in
    omega (arith, fit, under)
