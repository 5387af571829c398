use Rattle.std.proofs.Common.{◌≡◌, ℕ, ◌+◌, ◌<◌, length, arith, ap, ◌∙◌}
use Rattle.std.specs.Prelude.{slice_index}
use Rattle.graph_drawing.specs.Layers.{unset, next_layer}
use Rattle.graph_drawing.proofs.LayersLemmas.{fewer_unset, keeps_down, next_below, none_free}
use Rattle.graph_drawing.proofs.layers.layers_of.Goals as goal

pub loop-settled-preserved : goal.loop-settled-preserved
loop-settled-preserved c =
    let old = c.loop-settled.layers.items in
    let now = c.in_ok-next.next.items in
    let layer = c.loop-settled.settled + 1 in
    let size : length old ≡ c.args.count = c.loop-settled.invariant.size in
    let below : (n : ℕ) → n < c.args.count → slice_index old n < layer = c.loop-settled.invariant.below in
    let each : (n : ℕ) → n < c.args.count → slice_index now n ≡ next_layer old c.args.edges.now layer n =
    λ n h. let inside : n < length c.deref.result.now = omega (arith, ap length c.deref.ensures.value) in
    c.in_ok-next.ensures.each n inside ∙ ap (λ xs. next_layer xs c.args.edges.now layer n) c.deref.ensures.value in
    record {
      size = c.in_ok-next.ensures.size ∙ ap length c.deref.ensures.value ∙ size;
      below = next_below old now c.args.edges.now layer c.args.count below each;
      kept = keeps_down old now c.args.edges.now layer c.args.count (omega arith) size below each c.requires c.loop-settled.invariant.kept;
      few = fewer_unset c.in_ok-next.any (unset now) (unset c.deref.result.now) (unset old) c.loop-settled.settled c.args.count
          c.if-not-any.false c.in_ok-next.ensures.fewer (ap unset c.deref.ensures.value) c.loop-settled.invariant.few;
    }

pub finished-requires-2-clause-stuck : goal.finished-requires-2-clause-stuck
finished-requires-2-clause-stuck c = none_free c.loop-settled.layers.items c.args.edges.now (omega arith)
