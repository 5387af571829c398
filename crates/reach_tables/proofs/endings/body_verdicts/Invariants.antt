use Rattle.std.proofs.Common.{◌≡◌, map, take}
use Rattle.place_plan.specs.declared.drafts.draft_rows.RoleRow.{RoleRow}
use Rattle.reach_tables.proofs.endings.body_verdicts.Given as goal

abbrev pub invariant-loop-role : goal.invariant-loop-role
invariant-loop-role l = l.verdicts.items ≡ map (λ (role : RoleRow). role.body.verdict) (take l.role-index l.action.roles)
