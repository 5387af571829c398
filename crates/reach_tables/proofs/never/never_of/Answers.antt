use Rattle.std.proofs.Common.{◌≡◌, ℕ, false, List, ◌∙◌, sym, subst}
use Rattle.std.specs.List.{All}
use Rattle.cover_table.specs.Cover.{CoverOrder}
use Rattle.place_plan.specs.Plans.Places.{graph_at}
use Rattle.reach_tables.specs.ReachTable.{groups_of, can_resolve}
use Rattle.reach_tables.proofs.never.never_of.Goals as goal

pub returns : goal.returns
returns c =
    let plan = c.args.plan.now in
    let action = c.args.action.now in
    let row = c.args.row.now in
    let never = c.in_ok-never.never.items in
    subst (All (λ (x : ℕ). can_resolve (graph_at plan action.internal) (groups_of action row) x ≡ false)) (sym c.from_vec-2.ensures)
    (subst (λ (groups : List (List ℕ)). All (λ (x : ℕ). can_resolve (graph_at plan action.internal) groups x ≡ false) never)
    (c.deref-2.ensures.value ∙ c.in_ok-groups.ensures)
    (subst (λ (graph : CoverOrder). All (λ (x : ℕ). can_resolve graph c.deref-2.result.now x ≡ false) never) c.in-Some.ensures
    c.in_ok-never.ensures))
