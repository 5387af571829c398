use Rattle.std.proofs.Common.{rules}
use Rattle.std.proofs.Math.Logic.{∥∥₁_map}
use Rattle.std.specs.Prelude.{is_ok}
use Rattle.caa_base.specs.declared.outside.plant.Asked.TheVariants as asked
use Rattle.entry_log.proofs.LiveLemmas.{keeps_laid, objects_laid}
use Rattle.entry_log.proofs.logged_plant.LoggedPlantPlant.lay.Goals as goal

pub invariant_of-self : goal.invariant_of-self
invariant_of-self g c =
    let device = c.self.inside in
    let laid = c.lay-laid.result in (
      c.self.invariant.0,
      ∥∥₁_map c.self.invariant.1 (λ k.
          keeps_laid g.P.Plant g.K.Sink device.script.items device.plan device.plant c.lay-laid.new.self device.log c.begin_if.new.self device.course
          c.then-self-inside.result k c.args.values.now c.args.drills.now c.args.puts (is_ok laid) _ (search rules)
          c.then-self-inside.ensures.0 c.then-self-inside.ensures.1 c.lay-laid.ensures.history
          (λ is. c.begin_if.ensures.begun (search rules)) (λ is. c.begin_if.ensures.same (search rules))
          (λ opening entries told. c.begin_if.ensures.told device.plan opening entries told)),
    )

pub returns-clause-objects : goal.returns-clause-objects
returns-clause-objects g c =
    let laid = c.lay-laid.result in
    objects_laid g.P.Plant c.self.inside.course.seen c.then-self-inside.result.seen c.self.inside.plant c.lay-laid.new.self
    (record { came = asked.Laid c.args.values.now c.args.drills.now c.args.puts (is_ok laid); sink = c.self.inside.log.sink }) laid _
    (search rules) (search rules) c.lay-laid.ensures.objects
