use Rattle.entry_log.proofs.LiveLemmas.{keeps_first}
use Rattle.entry_log.proofs.logged_plant.LoggedPlant.new.Goals as goal

pub invariant_of-result : goal.invariant_of-result
invariant_of-result g c = (
  c.requires.named,
  ∣ keeps_first g.P.Plant g.K.Sink c.args.script.items c.args.plan c.args.plant c.args.sink c.over.result c.requires.script
      c.requires.unasked c.over.ensures.0 c.over.ensures.1 ∣₁,
)
