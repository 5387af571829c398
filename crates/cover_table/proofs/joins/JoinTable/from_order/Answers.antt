use Rattle.std.proofs.Common.{◌≡◌, ◌<◌, ◌≤◌, ◌==◌, ◌||◌, ℕ, List, [], ◌∷◌, length, arith, ap, subst, sym, ◌∙◌, take, Ok, Err, slice_index, slice_index_or, if◌then◌else◌}
use Rattle.std.proofs.lemmas.List.{get_or-take, length-set, length-take-le}
use Rattle.std.proofs.lemmas.Result.{err_from_is_err_and}
use Rattle.cover_table.specs.Cover.{CoverOrder, covers, has_bit, order_of, tells, IsFirstWithoutLeast, IsLeastCover}
use Rattle.cover_table.specs.inner.Uppers.{AreUppers}
use Rattle.cover_table.proofs.Least.{join_from_least, least_from_join}
use Rattle.cover_table.proofs.Orders.{first_from_row, refused_at, joins_more}
use Rattle.cover_table.proofs.NextAbove.{least_below}
use Rattle.cover_table.proofs.joins.JoinTable.from_order.Goals as goal
use Rattle.cover_table.proofs.joins.JoinTable.from_order.Goals.{in-Some, in-None+in_ok-joins-in-None}

-- the first rows of more, and as many of the rows of what covers each
first_uppers : (count : ℕ) (rows all : List ℕ) → count ≤ length rows
    → AreUppers (take count rows) (take (length (take count rows)) all) → AreUppers (take count rows) (take count all)
first_uppers count rows all fits upper = subst (λ (n : ℕ). AreUppers (take count rows) (take n all)) (length-take-le count rows fits) upper

pub returns-in_err-joins-in-None-clause-no_least : goal.returns-in_err-joins-in-None-clause-no_least
returns-in_err-joins-in-None-clause-no_least g c =
    let p = err_from_is_err_and c.from_residual.result c.from_residual.ensures.1 in
    let order : CoverOrder = order_of c.args.order.now.count c.args.order.now.rows in
    let fits : order.count ≤ length c.args.order.now.rows = omega arith in
    let many = length-take-le order.count c.args.order.now.rows fits in
    let uppers : List ℕ = take order.count c.uppers_of-all_uppers.result in
    let upper : AreUppers order.rows uppers =
    first_uppers order.count c.args.order.now.rows c.uppers_of-all_uppers.result fits
    c.uppers_of-all_uppers.ensures in
    let as_many = upper.as_many in
    let fails = c.in_err-joins-in-None.ensures.lacks.1 in
    let below = fails.in_range in
    let e = c.in_err-joins-in-None.field-0.0 in
    let b_in : e.b < order.count = omega arith in
    let same = c.in_err-joins-in-None.ensures.lacks.0 in
    let a_in : e.a < order.count = omega arith in
    let first : IsFirstWithoutLeast order e.a e.b = first_from_row order e.a e.b c.requires.order a_in b_in
    (λ c' d c_in d_in. (_, c.loop-a.invariant.found c' d (omega arith) d_in))
    (λ found. fails.without (join_from_least order many c.requires.order uppers upper e.a e.b a_in b_in found))
    (λ d less. let join = fails.earlier d less in
    (join.0, least_from_join order many c.requires.order uppers upper e.a d a_in (omega arith) join.0 join.1)) in
    rw (p.1, p.2) (refused_at order (Err e) first)

pub loop-a-preserved : goal.loop-a-preserved
loop-a-preserved g c =
    let order : CoverOrder = order_of c.args.order.now.count c.args.order.now.rows in
    let fits : order.count ≤ length c.args.order.now.rows = omega arith in
    let many = length-take-le order.count c.args.order.now.rows fits in
    let uppers : List ℕ = take order.count c.uppers_of-all_uppers.result in
    let upper : AreUppers order.rows uppers =
    first_uppers order.count c.args.order.now.rows c.uppers_of-all_uppers.result fits
    c.uppers_of-all_uppers.ensures in
    let as_many = upper.as_many in
    let found = c.loop-a.invariant.found in
    let a_in = c.loop-a-test.true in
    let row : (d : ℕ) → d < order.count
    → IsLeastCover order (c.loop-a.a ∷ d ∷ []) (slice_index c.match-next_above.joins d) =
    λ d d_in. elim c.match-next_above.branch [
      | in-Some w ↦
          let above = w.in-Some.above in
          let less = w.in-Some.ensures.0 in
          let told : (y b : ℕ) → b < order.count → tells uppers b y ≡ covers order y b = λ y b b_in. upper.tell y b (omega arith) in
          let above_told : (y : ℕ) → y < order.count
          → covers order y c.loop-a.a ≡ (y == c.loop-a.a || covers order y above) =
          λ y y_in. sym (told y c.loop-a.a a_in) ∙ rw (told y above (omega arith)) at (w.in-Some.ensures.1 y) in
          let row_told : has_bit (slice_index_or c.args.order.now.rows c.loop-a.a 0) d ≡ covers order c.loop-a.a d =
          ap (λ row. has_bit row d) (sym (get_or-take order.count c.args.order.now.rows c.loop-a.a 0 a_in)) in
          let joined : slice_index w.joins_below.result d
          ≡ (if covers order c.loop-a.a d then c.loop-a.a else slice_index
          (slice_index_or c.loop-a.joins above []) d) = w.joins_below.ensures d (omega arith) (omega arith)
          ∙ ap (λ over. if over then c.loop-a.a else slice_index (slice_index_or c.loop-a.joins above []) d)
          row_told in
          rw (w.joins-is, joined) (least_below order c.requires.order above c.loop-a.a (omega arith) a_in above_told d _
          (found above d less d_in))
      | in-None+in_ok-joins-in-None w ↦
          rw w.joins-is (least_from_join order many c.requires.order uppers upper c.loop-a.a d a_in d_in
          (slice_index w.in_ok-joins-in-None.field-0 d) (w.in_ok-joins-in-None.ensures.found d (omega arith)))
    ] in
    record {
      len = grind (arith, length-set);
      found = joins_more order c.loop-a.joins c.loop-a.a c.match-next_above.joins (omega arith) found row;
    }

pub returns-clause-sound : goal.returns-clause-sound
returns-clause-sound g c = record {
  is_order = c.requires.order;
  pairs = λ a b a_in b_in. (_, c.loop-a.invariant.found a b (omega arith) b_in);
}

pub returns-clause-no_least : goal.returns-clause-no_least
returns-clause-no_least g c = refused_at (order_of c.args.order.now.count c.args.order.now.rows) (Ok _) (returns-clause-sound g c)
