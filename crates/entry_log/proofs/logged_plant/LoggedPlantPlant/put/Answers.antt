use Rattle.std.proofs.Common.{◌≡◌, refl, sym, subst, false, if◌then◌else◌, rules}
use Rattle.std.proofs.Math.Logic.{∥∥₁_map}
use Rattle.std.specs.Prelude.{is_ok, ◌<◌}
use Rattle.caa_base.specs.declared.outside.plant.Asked.TheVariants as asked
use Rattle.entry_log.specs.LoggedPlants.{was_laid, objects_of}
use Rattle.entry_log.proofs.LiveLemmas.{keeps_put, laid_of, objects_same}
use Rattle.entry_log.proofs.logged_plant.LoggedPlantPlant.put.Goals as goal

pub put-answer-requires-clause-laid : goal.put-answer-requires-clause-laid
put-answer-requires-clause-laid g c =
    let device = c.self.inside in
    let low = subst (λ d. c.args.object < objects_of g.P.Plant d) (sym c.self.view_is) c.requires.laid in
    subst (λ b. c.args.object < (if b then g.P.Plant.objects device.plant else 0))
    (laid_of (was_laid device.course.seen) (g.P.Plant.objects device.plant) c.args.object low) low

pub invariant_of-self : goal.invariant_of-self
invariant_of-self g c =
    let device = c.self.inside in
    let low = subst (λ d. c.args.object < objects_of g.P.Plant d) (sym c.self.view_is) c.requires.laid in
    let laid = laid_of (was_laid device.course.seen) (g.P.Plant.objects device.plant) c.args.object low in (
      c.self.invariant.0,
      ∥∥₁_map c.self.invariant.1 (λ k.
          keeps_put g.P.Plant g.K.Sink device.script.items device.plan device.plant c.put-answer.new.self device.log device.log device.course
          c.then-self-inside.result k c.args.object c.args.value false (is_ok c.put-answer.result) _ (search rules)
          c.then-self-inside.ensures.0 c.then-self-inside.ensures.1 (search rules) refl laid),
    )

pub returns-clause-objects : goal.returns-clause-objects
returns-clause-objects g c =
    subst (λ d. (if was_laid c.then-self-inside.result.seen then g.P.Plant.objects c.put-answer.new.self else 0) ≡ objects_of g.P.Plant d) c.self.view_is
    (objects_same g.P.Plant c.self.inside.course.seen c.then-self-inside.result.seen c.self.inside.plant c.put-answer.new.self
    (record { came = asked.Put c.args.object c.args.value false (is_ok c.put-answer.result); sink = c.self.inside.log.sink })
    (search rules) refl c.put-answer.ensures.objects)
