use Rattle.std.proofs.Common.{◌≡◌, ℕ, false, List, IfOk, subst}
use Rattle.std.specs.List.{All}
use Rattle.place_plan.specs.declared.drafts.draft_rows.ActionRow.{ActionRow}
use Rattle.place_plan.specs.Plans.Places.{graph_at}
use Rattle.reach_tables.specs.ReachTable.{groups_of, can_resolve}
use Rattle.reach_tables.proofs.never.never_in.Goals as goal

pub returns-in-Some : goal.returns-in-Some
returns-in-Some c =
    let plan = c.args.plan.now in
    let row = c.args.row.now in
    subst
    (λ (action : ActionRow). IfOk c.never_of.result
    (λ (never : List ℕ). All (λ (x : ℕ). can_resolve (graph_at plan action.internal) (groups_of action row) x ≡ false) never))
    c.in-Some.ensures c.never_of.ensures
