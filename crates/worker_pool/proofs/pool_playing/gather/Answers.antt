use Rattle.std.proofs.Common.{◌++◌, ◌∙◌, arith, ap, sym, length, append_assoc}
use Rattle.std.specs.List.{sum_by, flat_map}
use Rattle.std.proofs.lemmas.List.{length-append}
use Rattle.std.proofs.lemmas.List.Sums.{sum_by-cons}
use Rattle.worker_pool.proofs.pool_playing.gather.Goals as goal

pub append-seats-requires : goal.append-seats-requires
append-seats-requires g c =
    let inv = c.loop-more.invariant in
    let took = ap (sum_by (λ v. length v.items)) c.in-Some.ensures.steps.0 in
    let room = inv.room in
    record { room = omega (arith, room, took, sum_by-cons (λ v. length v.items) c.in-Some.more c.next.new.self.rest.items) }

pub loop-more-preserved : goal.loop-more-preserved
loop-more-preserved g c =
    let inv = c.loop-more.invariant in
    let rest = c.next.new.self.rest.items in
    let items = c.append-seats.ensures.items in
    let took = ap (sum_by (λ v. length v.items)) c.in-Some.ensures.steps.0 in
    let room = inv.room in
    let same = c.append-seats.ensures.room in
    let long = ap length items in
    record {
      items = ap (λ l. l ++ flat_map (λ v. v.items) rest) items
          ∙ (append_assoc c.loop-more.seats.items c.in-Some.more.items (flat_map (λ v. v.items) rest)
          ∙ (ap (λ l. c.loop-more.seats.items ++ flat_map (λ v. v.items) l) (sym c.in-Some.ensures.steps.0) ∙ inv.items));
      room = omega (
        arith,
        room,
        took,
        same,
        long,
        length-append c.loop-more.seats.items c.in-Some.more.items,
        sum_by-cons (λ v. length v.items) c.in-Some.more rest,
      );
    }
