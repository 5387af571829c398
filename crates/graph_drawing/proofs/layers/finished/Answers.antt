use Rattle.std.specs.Prelude.{slice_index}
use Rattle.std.proofs.Common.{◌≡◌, ◌<◌, length, subst}
use Rattle.graph_drawing.proofs.LayersLemmas.{ring_of}
use Rattle.graph_drawing.proofs.layers.finished.Goals as goal

pub returns-in-Some-clause-ringed : goal.returns-in-Some-clause-ringed
returns-in-Some-clause-ringed c =
    let found : (c.in-Some.field-0 < length c.deref.result.now) × (slice_index c.deref.result.now c.in-Some.field-0 ≡ 0) = c.in-Some.ensures.found in
    let there : (c.in-Some.field-0 < length c.args.layers.items) × (slice_index c.args.layers.items c.in-Some.field-0 ≡ 0) =
    subst (λ xs. (c.in-Some.field-0 < length xs) × (slice_index xs c.in-Some.field-0 ≡ 0)) c.deref.ensures.value found in
    ring_of c.args.layers.items c.args.edges.now c.in-Some.field-0 c.requires.within c.requires.stuck there.0 there.1
