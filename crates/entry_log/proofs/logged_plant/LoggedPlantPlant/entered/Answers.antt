use Rattle.std.proofs.Common.{◌≡◌, refl, subst, if◌then◌else◌}
use Rattle.std.proofs.Math.Logic.{∥∥₁_map}
use Rattle.caa_base.specs.declared.outside.plant.Asked.TheVariants as asked
use Rattle.entry_log.specs.LoggedPlants.{was_laid, objects_of}
use Rattle.entry_log.proofs.LiveLemmas.{keeps_entered, objects_same}
use Rattle.entry_log.proofs.logged_plant.LoggedPlantPlant.entered.Goals as goal

pub invariant_of-self : goal.invariant_of-self
invariant_of-self g c =
    let device = c.self.inside in (
      c.self.invariant.0,
      ∥∥₁_map c.self.invariant.1 (λ k.
          keeps_entered g.P.Plant g.K.Sink device.script.items device.plan device.plant c.entered.new.self device.log c.add.new.self device.course
          c.then-self-inside.result k c.args.entry.now _ refl c.then-self-inside.ensures.0 c.then-self-inside.ensures.1
          c.entered.ensures.history c.add.ensures.begun c.add.ensures.told),
    )

pub returns-clause-objects : goal.returns-clause-objects
returns-clause-objects g c =
    subst (λ d. (if was_laid c.then-self-inside.result.seen then g.P.Plant.objects c.entered.new.self else 0) ≡ objects_of g.P.Plant d) c.self.view_is
    (objects_same g.P.Plant c.self.inside.course.seen c.then-self-inside.result.seen c.self.inside.plant c.entered.new.self
    (record { came = asked.Entered c.args.entry.now; sink = c.self.inside.log.sink })
    c.then-self-inside.ensures.0 refl c.entered.ensures.objects)

pub add-requires : goal.add-requires
add-requires g c = c.self.invariant.0
