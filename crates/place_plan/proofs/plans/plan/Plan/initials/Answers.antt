use Rattle.std.proofs.Common.{ℤ, ◌≡◌, List, [], arith, ap, ap₂, map, sym, to_z, of_z, w64, ◌++◌, ◌∷◌, ◌∙◌}
use Rattle.std.proofs.lemmas.Int.{ints}
use Rattle.std.proofs.lemmas.List.{map_more, take_all}
use Rattle.place_plan.specs.declared.drafts.draft_rows.ObjectRow.{ObjectRow}
use Rattle.place_plan.specs.Plans.Places.{no_object}
use Rattle.place_plan.proofs.plans.plan.Plan.initials.Goals as goal

pub loop-object-preserved : goal.loop-object-preserved
loop-object-preserved c =
    let value = to_z w64 (of_z w64 c.initial.result) in
    let same : value ≡ c.initial.result = omega (arith, ints) in
    c.in_ok-push.ensures.items
    ∙ (ap₂ (λ (values : List ℤ) (value : ℤ). values ++ value ∷ []) c.loop-object.invariant (same ∙ c.initial.ensures)
    ∙ sym (map_more (λ (o : ObjectRow). o.initial) c.args.self.now.objects c.loop-object.object no_object (omega arith)))

pub returns : goal.returns
returns c =
    c.loop-object.invariant
    ∙ ap (map (λ (o : ObjectRow). o.initial)) (take_all c.loop-object.object c.args.self.now.objects (omega arith))
