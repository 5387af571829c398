use Rattle.std.proofs.Common.{arith, subst, length, ap, ap₂, ◌<◌, ◌∙◌, slice_index_or}
use Rattle.std.proofs.lemmas.List.{get_or_default}
use Rattle.place_plan.specs.declared.drafts.draft_rows.GraphRow.{GraphRow}
use Rattle.place_plan.specs.Plans.PlanValue.{Plan}
use Rattle.place_plan.specs.inner.PlanView.{plan_view}
use Rattle.place_plan.specs.Plans.Places.{action_at, no_graph}
use Rattle.place_plan.proofs.OnPlans.ClosedPlan.{has_graphs}
use Rattle.place_plan.proofs.plans.plan.Plan.interface.Goals as goal

pub bounds-as_slice-interface_number : goal.bounds-as_slice-interface_number
bounds-as_slice-interface_number c =
    let has =
    subst (λ (p : Plan). (action_at p c.args.place).interface < length c.self.inside.graphs) c.self.view_is
    (has_graphs (plan_view c.self.inside) c.self.invariant.closed c.args.place).1 in
    omega (arith, has, c.interface_number.ensures, ap length c.as_slice.ensures)

pub returns : goal.returns
returns c =
    let has =
    subst (λ (p : Plan). (action_at p c.args.place).interface < length c.self.inside.graphs) c.self.view_is
    (has_graphs (plan_view c.self.inside) c.self.invariant.closed c.args.place).1 in
    let is_within : c.interface_number.result < length c.as_slice.result.now =
    omega (arith, has, c.interface_number.ensures, ap length c.as_slice.ensures) in
    ap (λ (row : GraphRow). row.graph)
    (get_or_default c.as_slice.result.now c.interface_number.result _ no_graph is_within
    ∙ ap₂ (λ rows i. slice_index_or rows i no_graph)
    (c.as_slice.ensures ∙ ap (λ (p : Plan). p.graphs) c.self.view_is) c.interface_number.ensures)
