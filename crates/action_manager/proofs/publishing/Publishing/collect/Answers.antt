use Rattle.std.proofs.Common.{rules, ◌≡◌, ◌<◌, ◌++◌, ◌∷◌, [], length, map, take, reverse, refl, sym, ap, ◌∙◌, subst, arith, slice_index_or}
use Rattle.std.proofs.lemmas.List.{take_all, length-map, length-take-le}
use Rattle.place_plan.specs.Plans.Closed.{IsClosed}
use Rattle.place_plan.specs.Plans.Places.{objects_of}
use Rattle.place_plan.specs.RulesOfJournals.Objects.{value_of}
use Rattle.action_manager.proofs.PublishingKept.{object_known, mapped_more}
use Rattle.action_manager.proofs.publishing.Publishing.collect.Goals as goal

pub value-requires : goal.value-requires
value-requires g c =
    let plan = g.M.Machine.plan_of c.args.machine.now in let objects = c.objects_of-objects.result.now in let i = c.loop-index.index in
    let closed : IsClosed plan = subst IsClosed c.plan.ensures c.is_closed.ensures in
    let same : objects ≡ objects_of plan c.args.place =
    c.objects_of-objects.ensures ∙ ap (λ p. objects_of p c.args.place) c.plan-2.ensures in
    let low : i < length objects = omega (arith, c.loop-index-test.true, c.loop-index.invariant.end) in
    subst (λ l. slice_index_or l i 0 < length plan.objects) (sym same)
    (object_known plan closed c.args.place i 0 (subst (λ l. i < length l) same low))

pub push_reserved-requires : goal.push_reserved-requires
push_reserved-requires g c =
    let plan = g.M.Machine.plan_of c.args.machine.now in let past = reverse (g.M.Machine.journal_of c.args.machine.now) in
    let objects = c.objects_of-objects.result.now in let i = c.loop-index.index in let inv = c.loop-index.invariant in
    let same : objects ≡ objects_of plan c.args.place =
    c.objects_of-objects.ensures ∙ ap (λ p. objects_of p c.args.place) c.plan-2.ensures in
    let low : i < length objects = omega (arith, c.loop-index-test.true, inv.end) in
    let many =
    ap length inv.changes ∙ (length-map (take i objects) (λ o. (o, value_of plan past o)) ∙ length-take-le i objects (omega (arith, low))) in
    let room = c.requires.room c.args.place c.requires.place in let long = ap length same in
    omega (arith, c.loop-index.self.changes.ok.0, many, low, long, room, inv.room)

pub loop-index-preserved : goal.loop-index-preserved
loop-index-preserved g c =
    let plan = g.M.Machine.plan_of c.args.machine.now in let past = reverse (g.M.Machine.journal_of c.args.machine.now) in
    let objects = c.objects_of-objects.result.now in let i = c.loop-index.index in let inv = c.loop-index.invariant in
    let o = slice_index_or objects i 0 in
    let low : i < length objects = omega (arith, c.loop-index-test.true, inv.end) in
    let pushed : c.push_reserved.new.self.items ≡ c.loop-index.self.changes.items ++ (o, c.value.result) ∷ [] = search rules in
    record {
      end = refl;
      writer = inv.writer;
      room = c.push_reserved.ensures.capacity ∙ inv.room;
      changes =
          pushed ∙ (ap (λ l. l ++ (o, c.value.result) ∷ []) inv.changes
          ∙ (ap (λ v. map (λ o. (o, value_of plan past o)) (take i objects) ++ (o, v) ∷ []) c.value.ensures
          ∙ mapped_more (λ o. (o, value_of plan past o)) objects i 0 low));
    }

pub returns-clause-changes : goal.returns-clause-changes
returns-clause-changes g c =
    let plan = g.M.Machine.plan_of c.args.machine.now in let past = reverse (g.M.Machine.journal_of c.args.machine.now) in
    let objects = c.objects_of-objects.result.now in
    let same : objects ≡ objects_of plan c.args.place =
    c.objects_of-objects.ensures ∙ ap (λ p. objects_of p c.args.place) c.plan-2.ensures in
    c.loop-index.invariant.changes
    ∙ ap (map (λ o. (o, value_of plan past o))) (take_all c.loop-index.index objects c.loop-index-test.false ∙ same)
