use Rattle.std.proofs.Common.{◌≡◌, true, sym, ◌∙◌}
use Rattle.cover_table.specs.Cover.{has_bit}
use Rattle.cover_table.proofs.Bits.{has_bit-or}
use Rattle.exception_graph.proofs.closing.extended.Goals as goal

pub returns-then-has_bit : goal.returns-then-has_bit
returns-then-has_bit c = λ b.
    let on : has_bit c.args.row c.args.over ≡ true = sym c.has_bit.ensures ∙ c.if-has_bit.true in
    rw on (has_bit-or c.args.row c.args.more b)
