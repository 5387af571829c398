use Rattle.std.proofs.Common.{◌≡◌, ◌<◌, length, slice_index_or, slice_set, ap, ◌∙◌, arith}
use Rattle.std.proofs.lemmas.List.{length-map}
use Rattle.place_plan.specs.Plans.Places.{no_place}
use Rattle.place_plan.specs.inner.PlaceLists.{row_of}
use Rattle.place_plan.specs.inner.Unfolded.{with_children}
use Rattle.place_plan.proofs.OnPlans.PlaceLists.{used}
use Rattle.place_plan.proofs.plans.places.Places.set_uses.Goals as goal

pub returns : goal.returns
returns c =
    let old = c.self.inside in
    let there : c.args.place < length old.parts.items =
    omega (
      arith,
      c.requires,
      ap length c.self.view_is,
      length-map old.parts.items
          (row_of old.around.items old.players.items old.uses.items),
    ) in
    let begins : c.len-from.result ≡ length old.uses.items = omega (arith, c.len-from.ensures, old.uses.ok) in
    let ends : c.len.result ≡ length c.append.new.self.items = omega (arith, c.len.ensures, c.append.new.self.ok) in
    used old.around.items old.players.items old.uses.items c.append.new.self.items c.args.uses.items old.parts.items
    c.args.place c.index_mut.result.now (record { from = c.len-from.result; to = c.len.result }) c.self.invariant there
    c.index_mut.ensures.value c.in_ok-append.ensures.items begins ends
    ∙ ap (λ rows. slice_set rows c.args.place (with_children c.args.uses.items (slice_index_or rows c.args.place no_place)))
    c.self.view_is
