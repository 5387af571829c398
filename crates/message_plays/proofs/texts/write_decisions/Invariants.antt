use Rattle.message_plays.specs.inner.WorldOfPlan.{AddsDecisions}
use Rattle.message_plays.proofs.texts.write_decisions.Given as goal

abbrev pub invariant-loop-member : goal.invariant-loop-member
invariant-loop-member l = AddsDecisions l.plan l.world.past l.initial.text.items l.text.items l.member
