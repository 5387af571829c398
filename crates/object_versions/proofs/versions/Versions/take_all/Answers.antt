use Rattle.std.proofs.Common.{◌∙◌, ◌+◌, ◌<◌, length, take, slice_index_or, sym, subst, arith}
use Rattle.caa_base.specs.Written.Limits.{most_depth}
use Rattle.object_versions.specs.inner.ChangedVersions.{taken, ChangesEach}
use Rattle.object_versions.proofs.PlanDepths.{none_deep, object_known}
use Rattle.object_versions.proofs.ObjectByObject.{taken_again, changed_more}
use Rattle.object_versions.proofs.versions.Versions.take_all.Goals as goal

pub take_one-requires-clause-known : goal.take_one-requires-clause-known
take_one-requires-clause-known c =
    let objects = c.objects_of-object-items.result.now in
    let i = c.loop-object.object-index in
    let low : i < length objects = omega arith in
    let there = object_known c.args.plan.now c.is_closed.ensures c.args.place objects i c.objects_of-object-items.ensures low in
    let long = c.loop-object.invariant.as_many ∙ c.requires.whole in
    subst (λ n. slice_index_or objects i 0 < n) (sym long) there

pub take_one-requires-clause-low : goal.take_one-requires-clause-low
take_one-requires-clause-low c =
    subst (λ qs. length qs < most_depth) (sym c.around-depth.ensures) (none_deep c.args.plan.now c.is_closed.ensures c.args.place)

pub loop-object-preserved : goal.loop-object-preserved
loop-object-preserved c =
    let objects = c.objects_of-object-items.result.now in
    let i = c.loop-object.object-index in
    let p = c.args.place in
    let d = length c.around-depth.result.now in
    let low : i < length objects = omega arith in
    let there = object_known c.args.plan.now c.is_closed.ensures c.args.place objects i c.objects_of-object-items.ensures low in
    let long = c.loop-object.invariant.as_many ∙ c.requires.whole in
    subst (ChangesEach (take (i + 1) objects) (taken p d) c.args.self.now) (sym c.take_one.ensures)
    (changed_more objects i 0 (taken p d) c.args.self.now c.loop-object.self (taken_again p d) low
    (subst (λ n. slice_index_or objects i 0 < n) (sym long) there) c.loop-object.invariant)
