use Rattle.std.proofs.Common.{◌≡◌, map, take}
use Rattle.reach_laws.specs.ReachedSteps.{answer_to}
use Rattle.reach_tables.proofs.endings.answers.Given as goal

abbrev pub invariant-loop-role : goal.invariant-loop-role
invariant-loop-role l = l.verdicts.items ≡ map (answer_to l.exception) (take l.role-index l.action.roles)
