use Rattle.std.proofs.Common.{subst, Contains, ◌↔◌}
use Rattle.std.specs.Prelude.{IsTrue}
use Rattle.message_resolution.specs.declared.world.event.Event.TheVariants.{Deliver}
use Rattle.message_resolution.specs.inner.Runs.{RunView}
use Rattle.message_resolution.proofs.Running.Places.{delivery_found}
use Rattle.message_resolution.proofs.world.run.Run.was_delivered.Goals as goal

pub returns : goal.returns
returns c =
    subst (λ (v : RunView). IsTrue c.has_delivery.result ↔ Contains v.past (Deliver c.args.to c.args.message)) c.self.view_is
    (delivery_found c.self.inside.events.items c.args.to c.args.message c.has_delivery.result c.has_delivery.ensures)
