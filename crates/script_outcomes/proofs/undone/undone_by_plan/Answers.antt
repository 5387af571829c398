use Rattle.std.proofs.Common.{sym, ◌∙◌, ap, map, subst}
use Rattle.journal_laws.proofs.PlayablePlan.{is_playable}
use Rattle.journal_laws.proofs.CoreKept.{core}
use Rattle.reach_laws.proofs.Planned.{is_planned}
use Rattle.reach_tables.specs.declared.table.ReachRow.{ReachRow}
use Rattle.reach_tables.specs.ReachTable.{LeavesNothingOut}
use Rattle.script_outcomes.specs.Untried.{ListUntried}
use Rattle.script_outcomes.proofs.Untried.{list_untried}
use Rattle.script_outcomes.proofs.undone.undone_by_plan.Goals as goal

pub returns : goal.returns
returns c =
    let plan = c.args.plan.now in
    let playable = is_playable plan c.is_closed.ensures in
    let told = subst (LeavesNothingOut plan) c.deref.ensures.value (c.in_ok-leaves_nothing_out.ensures c.if-not-branch.false) in
    subst (ListUntried plan) (sym (c.in_ok-undone.ensures ∙ ap (map (λ (row : ReachRow). row.undone)) c.deref-2.ensures.value))
    (list_untried plan playable (core plan playable) (is_planned plan c.is_closed.ensures) c.ends_not_otherwise.ensures
    c.in_ok-table.table.items told)
