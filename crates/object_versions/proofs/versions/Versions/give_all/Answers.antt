use Rattle.std.proofs.Common.{◌∙◌, ◌+◌, ◌<◌, length, take, slice_index_or, refl, sym, subst, arith}
use Rattle.object_versions.specs.inner.ChangedVersions.{held_by, ChangesEach}
use Rattle.object_versions.proofs.PlanDepths.{object_known}
use Rattle.object_versions.proofs.ObjectByObject.{changed_more}
use Rattle.object_versions.proofs.versions.Versions.give_all.Goals as goal

pub give_one-requires : goal.give_one-requires
give_one-requires c =
    let objects = c.objects_of-object-items.result.now in
    let i = c.loop-object.object-index in
    let low : i < length objects = omega arith in
    let there = object_known c.args.plan.now c.is_closed.ensures c.args.place objects i c.objects_of-object-items.ensures low in
    let long = c.loop-object.invariant.as_many ∙ c.requires.whole in
    subst (λ n. slice_index_or objects i 0 < n) (sym long) there

pub loop-object-preserved : goal.loop-object-preserved
loop-object-preserved c =
    let objects = c.objects_of-object-items.result.now in
    let i = c.loop-object.object-index in
    let low : i < length objects = omega arith in
    let there = object_known c.args.plan.now c.is_closed.ensures c.args.place objects i c.objects_of-object-items.ensures low in
    let long = c.loop-object.invariant.as_many ∙ c.requires.whole in
    subst (ChangesEach (take (i + 1) objects) (held_by c.parent-outer.result) c.args.self.now) (sym c.give_one.ensures)
    (changed_more objects i 0 (held_by c.parent-outer.result) c.args.self.now c.loop-object.self (λ version. refl) low
    (subst (λ n. slice_index_or objects i 0 < n) (sym long) there) c.loop-object.invariant)
