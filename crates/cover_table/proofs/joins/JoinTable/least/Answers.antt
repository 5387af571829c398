use Rattle.std.proofs.Common.{◌<◌, ◌-◌, ℕ, List, ◌∷◌, All, sym, subst, take, drop, slice_index, length}
use Rattle.std.proofs.lemmas.List.{take_more}
use Rattle.std.proofs.lemmas.List.Elements.{All-take, All-drop, All-cons}
use Rattle.cover_table.specs.Cover.{CoverOrder, order_of}
use Rattle.cover_table.proofs.Orders.{least_more}
use Rattle.cover_table.proofs.joins.JoinTable.least.Goals as goal

pub loop-member-preserved : goal.loop-member-preserved
loop-member-preserved g c =
    let order : CoverOrder = order_of c.self.inside.count c.self.inside.rows in
    let set : List ℕ = c.args.set.now in
    let first : ℕ = slice_index set 0 in
    let rest : List ℕ = take (length set - 1) (drop 1 set) in
    let n = c.loop-member.member-index in
    let in_set : All (λ m. m < order.count) set =
    subst (λ (o : CoverOrder). All (λ m. m < o.count) set) (sym c.self.view_is) c.requires.in_range in
    let in_rest : All (λ m. m < order.count) rest =
    All-take (λ m. m < order.count) (length set - 1) (drop 1 set) (All-drop (λ m. m < order.count) 1 set in_set) in
    let in_first : first < order.count = in_set 0 0 c.requires.some in
    let in_front : All (λ m. m < order.count) (first ∷ take n rest) =
    All-cons (λ m. m < order.count) first (take n rest) in_first (All-take (λ m. m < order.count) n rest in_rest) in
    let next : ℕ = slice_index rest n in
    let next_in : next < order.count = in_rest n 0 c.loop-member-test.true in
    let joined = c.self.invariant.least c.loop-member.least next c.loop-member.invariant.in_range next_in in
    let more = take_more rest n 0 c.loop-member-test.true in
    let all =
    least_more order (first ∷ take n rest) c.loop-member.least next _ c.self.invariant.is_order in_front
    c.loop-member.invariant joined in
    rw (c.from-least.ensures, more) all
