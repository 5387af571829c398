use Rattle.std.proofs.Common.{rules, ◌≡◌, ◌∙◌, ◌+◌, ◌++◌, ◌∷◌, [], length, to_z, of_z, w64, sym, ap, subst, arith}
use Rattle.std.proofs.lemmas.Int.{ints}
use Rattle.std.proofs.lemmas.List.{length-append}
use Rattle.place_plan.specs.Plans.Places.{initial_of}
use Rattle.object_versions.specs.inner.KeptVersions.{at, IsVersionOf}
use Rattle.object_versions.proofs.VersionsKept.{opened_more}
use Rattle.object_versions.proofs.versions.Versions.open.Goals as goal

pub loop-object-preserved : goal.loop-object-preserved
loop-object-preserved c =
    let plan = c.args.plan.now in
    let items = c.loop-object.versions.items in
    let n = c.loop-object.object in
    let new = c.untaken.result in
    let pushed : c.push.new.self.items ≡ items ++ new ∷ [] = search rules in
    let same : to_z w64 (of_z w64 c.initial.result) ≡ c.initial.result = omega (arith, ints) in
    let value : new.value ≡ initial_of plan n = c.untaken.ensures.value ∙ (same ∙ c.initial.ensures) in
    record {
      long = ap length pushed ∙ (length-append items (new ∷ []) ∙ ap (λ k. k + 1) c.loop-object.invariant.long);
      each = λ o l.
          subst (λ xs. IsVersionOf plan [] o (at xs o)) (sym pushed)
          (opened_more plan items n new c.loop-object.invariant.long c.loop-object.invariant.each value c.untaken.ensures.free
          c.untaken.ensures.room o l);
    }
