use Rattle.std.proofs.Common.{◌≡◌, take}
use Rattle.std.specs.List.{filter}
use Rattle.place_plan.specs.Plans.Places.{roles_of}
use Rattle.journal_states.specs.Past.{plan_in, past_in}
use Rattle.journal_states.specs.Waits.{is_awaited}
use Rattle.journal_page.proofs.stances.awaited_roles.Given as goal

abbrev pub invariant-loop-role : goal.invariant-loop-role
invariant-loop-role l =
    l.awaited.items ≡ filter (is_awaited (plan_in l.states) (past_in l.states) l.wait.place l.wait.lack)
    (take l.role-index (roles_of (plan_in l.states) l.wait.place))
