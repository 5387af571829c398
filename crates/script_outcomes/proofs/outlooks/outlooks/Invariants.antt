use Rattle.script_outcomes.specs.Nevers.{TellsNever}
use Rattle.script_outcomes.specs.Untried.{TellsUntried}
use Rattle.script_outcomes.proofs.outlooks.outlooks.Given as goal

abbrev pub invariant-loop-action : goal.invariant-loop-action
invariant-loop-action l = TellsNever l.plan l.known.items × TellsUntried l.plan l.known.items
