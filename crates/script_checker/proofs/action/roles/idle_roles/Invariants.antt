use Rattle.std.proofs.Common.{◌≡◌, map, take}
use Rattle.script_checker.specs.InAction.{idle_role}
use Rattle.script_checker.proofs.action.roles.idle_roles.Given as goal

abbrev pub invariant-loop-role : goal.invariant-loop-role
invariant-loop-role l = l.rows.items ≡ map (idle_role l.names) (take l.role-index l.roles)
