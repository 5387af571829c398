use Rattle.std.proofs.Common.{◌≡◌, ◌∙◌, ◌<◌, length, to_z, of_z, w64, sym, ap, subst, arith}
use Rattle.std.proofs.lemmas.Int.{ints}
use Rattle.caa_base.specs.Written.Limits.{most_depth}
use Rattle.object_versions.specs.inner.KeptVersions.{at, saved_at}
use Rattle.object_versions.proofs.PlanDepths.{none_deep, used_known}
use Rattle.object_versions.proofs.versions.Versions.saved.Goals as goal

pub saved_under-requires-clause-low : goal.saved_under-requires-clause-low
saved_under-requires-clause-low c =
    subst (λ qs. length qs < most_depth) (sym c.around.ensures) (none_deep c.args.plan.now c.is_closed.ensures c.args.place)

pub returns-clause-at_start : goal.returns-clause-at_start
returns-clause-at_start c = λ past s live used.
    let known = used_known c.args.plan.now c.is_closed.ensures c.args.place c.args.object used in
    let same : to_z w64 (of_z w64 c.saved_under.result) ≡ c.saved_under.result = omega (arith, ints) in
    same ∙ (c.saved_under.ensures
    ∙ (ap (λ qs. saved_at (at c.args.self.now c.args.object) (length qs)) c.around.ensures
    ∙ (s.each c.args.object known).at_start c.args.place live used))
