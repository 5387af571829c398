use Rattle.std.proofs.Common.{◌≡◌, map, take}
use Rattle.place_plan.specs.Plans.Places.{exception_name}
use Rattle.script_checker.specs.LinesOfPlan.{role_lines}
use Rattle.script_checker.proofs.lines.all_roles.Given as goal

abbrev pub invariant-loop-role : goal.invariant-loop-role
invariant-loop-role l =
    l.lines.items
    ≡ map (role_lines l.subject.names.now (exception_name l.subject.plan.now l.subject.internal) l.subject.block.now)
    (take l.role-index l.roles)
