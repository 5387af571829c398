use Rattle.std.proofs.Common.{◌≡◌, ◌<◌, ap, arith, length, length-set, sym, ◌∙◌}
use Rattle.std.proofs.Math.Seq.{map-set_same}
use Rattle.shared_views.specs.Committing.{placeless, unplaced}
use Rattle.shared_views.proofs.Placed.{book_at}
use Rattle.shared_views.proofs.committed_writer.seat_all.Goals as goal

pub take_place-requires-clause-book : goal.take_place-requires-clause-book
take_place-requires-clause-book c =
    let inv = c.loop-index.invariant in let it = c.index_mut.result.now in
    let low : c.loop-index.index < length c.loop-index.observers.items =
    omega (arith, c.loop-index-test.true, c.len-index-end.ensures, inv.many) in
    let book =
    book_at c.args.writer.now.desk.shown.value.publications.book c.loop-index.observers.items c.args.observers.now.items
    c.loop-index.index it inv.same c.requires.book low in
    ap (λ s. s.value.publications.book) inv.shown.0 ∙ sym (ap (λ o. o.known.book) c.index_mut.ensures.value ∙ book)

pub loop-index-preserved : goal.loop-index-preserved
loop-index-preserved c =
    let inv = c.loop-index.invariant in let it = c.index_mut.result.now in let placed = c.take_place.new.self in
    let items = c.loop-index.observers.items in let told = c.take_place.ensures in
    let alike : placeless placed ≡ placeless it =
    λ i. unplaced (told.same.0 i) (told.same.1 i) in
    record {
      many = length-set items c.loop-index.index placed ∙ inv.many;
      same =
          map-set_same placeless items c.loop-index.index placed it (alike ∙ ap placeless c.index_mut.ensures.value) ∙ inv.same;
      shown = (told.shown.0 ∙ inv.shown.0, told.shown.1 ∙ inv.shown.1, told.shown.2 ∙ inv.shown.2);
      knows = told.writer;
    }
