use Rattle.std.proofs.Common.{◌++◌, ◌∷◌, [], ◌∙◌, arith, ap, sym, length, append_assoc}
use Rattle.worker_pool.proofs.pool_playing.append.Goals as goal

pub loop-seat-preserved : goal.loop-seat-preserved
loop-seat-preserved g c =
    let inv = c.loop-seat.invariant in
    let rest = c.next.new.self.rest.items in
    let took = c.in-Some.ensures.steps.0 in
    let one = ap length took in
    let pushed = c.push_reserved.ensures in
    let room = inv.room in
    record {
      items = ap (λ l. l ++ rest) pushed.items
          ∙ (append_assoc c.loop-seat.seats.items (c.in-Some.seat ∷ []) rest
          ∙ (ap (λ l. c.loop-seat.seats.items ++ l) (sym took) ∙ inv.items));
      room = omega (arith, room, one, pushed.len, pushed.capacity);
      same = pushed.capacity ∙ inv.same;
    }
