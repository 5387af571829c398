use Rattle.std.proofs.Common.{◌≡◌, ℕ, ◌+◌, ◌*◌, ◌^◌, ◌<◌, ◌≤◌, length, map, take, [], ◌∷◌, ◌++◌, refl, ap, sym, ◌∙◌, subst, arith, length-append}
use Rattle.std.specs.Prelude.{slice_index, slice_index_or}
use Rattle.std.specs.List.{All}
use Rattle.graph_drawing.specs.declared.spots.Spot.{Spot}
use Rattle.graph_drawing.specs.Spots.{end_at, EndsBy, AreApart}
use Rattle.graph_drawing.proofs.SpotsLemmas.{ends_more, apart_more, field_more}
use Rattle.graph_drawing.proofs.spots.spots_of.Goals as goal

pub loop-node-preserved : goal.loop-node-preserved
loop-node-preserved c =
    let spots = c.loop-node.spots.items in
    let node = c.loop-node.node in
    let s : Spot = record { layer = slice_index c.args.layers.now node; left = c.reach_of.result + 20; width = slice_index c.args.widths.now node } in
    let items : c.push.new.self.items ≡ spots ++ s ∷ [] = c.in_ok-push.ensures.items in
    let size : length spots ≡ node = c.loop-node.invariant.size in
    let inside : node < length c.args.widths.now = c.loop-node-test.true in
    let same : length c.args.widths.now ≡ length c.args.layers.now = c.requires.same in
    let ends : EndsBy c.deref.result.now (node * 2 ^ 21) = subst (λ xs. EndsBy xs (node * 2 ^ 21)) (sym c.deref.ensures.value) c.loop-node.invariant.ends in
    let reach : c.reach_of.result ≤ node * 2 ^ 21 = c.reach_of.ensures.least (node * 2 ^ 21) ends in
    let narrow : slice_index c.args.widths.now node < 2 ^ 20 = c.requires.narrow node 0 inside in
    record {
      size = ap length items ∙ length-append spots (s ∷ []) ∙ omega arith;
      layers = ap (map (λ t. t.layer)) items ∙ field_more (λ t. t.layer) spots s c.args.layers.now node (omega arith) c.loop-node.invariant.layers refl;
      widths = ap (map (λ t. t.width)) items ∙ field_more (λ t. t.width) spots s c.args.widths.now node inside c.loop-node.invariant.widths refl;
      ends = subst (λ xs. EndsBy xs ((node + 1) * 2 ^ 21)) (sym items)
          (ends_more spots s (node * 2 ^ 21) ((node + 1) * 2 ^ 21) c.loop-node.invariant.ends (omega arith) (omega arith));
      apart = subst AreApart (sym items) (apart_more spots s c.loop-node.invariant.apart (λ k d lt l.
          let past : end_at spots k d ≤ c.reach_of.result = subst (λ xs. (j : ℕ) (e : Spot) → j < length xs → (slice_index_or xs j e).layer ≡ slice_index c.args.layers.now node → end_at xs j e ≤ c.reach_of.result) c.deref.ensures.value c.reach_of.ensures.past k d lt l in
          omega arith));
    }
