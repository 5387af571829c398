use Rattle.std.proofs.Common.{◌∙◌, sym, arith}
use Rattle.std.proofs.lemmas.Bool.{lt-leb}
use Rattle.set_graphs.specs.Sets.{exception_count}
use Rattle.graph_maker.proofs.Rooms.{more_exceptions}
use Rattle.graph_maker.proofs.refusals.has_room.Goals as goal

pub returns-else-primitives-le-MOST_PRIMITIVES : goal.returns-else-primitives-le-MOST_PRIMITIVES
returns-else-primitives-le-MOST_PRIMITIVES c =
    let n = c.args.primitives in
    let past = c.if-primitives-le-MOST_PRIMITIVES.false in
    let more = more_exceptions n c.args.most c.requires.some_member in
    lt-leb n 127 (omega (arith, past)) ∙ sym (lt-leb (exception_count n c.args.most) 128 (omega (arith, past, more)))
