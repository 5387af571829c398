use Rattle.message_resolution.specs.inner.Rows.{DeliversRow}
use Rattle.message_resolution.proofs.world.run.Run.deliver_to_all.Given as goal

abbrev pub invariant-loop-to : goal.invariant-loop-to
invariant-loop-to l = DeliversRow l.initial.self l.self l.message l.to
