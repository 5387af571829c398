use Rattle.std.proofs.Common.{◌≡◌, ◌∙◌, ◌∷◌, slice_set, to_z, of_z, w64, subst, sym, ap, arith}
use Rattle.std.proofs.lemmas.Int.{ints}
use Rattle.object_versions.specs.inner.KeptVersions.{at, StandsFor}
use Rattle.object_versions.specs.inner.ChangedVersions.{valued}
use Rattle.object_versions.proofs.VersionsKept.{written_keeps}
use Rattle.object_versions.proofs.versions.Versions.write.Goals as goal

pub returns-clause-keeps : goal.returns-clause-keeps
returns-clause-keeps c = λ plan past e s w.
    let versions = c.args.self.now in
    let same : to_z w64 (of_z w64 c.args.value) ≡ c.args.value = omega (arith, ints) in
    let set =
    c.set.ensures ∙ ap (λ v. slice_set versions c.args.object (valued v (at versions c.args.object))) same in
    subst (StandsFor plan (e ∷ past)) (sym set) (written_keeps plan past e c.args.object c.args.value versions c.requires s w)
