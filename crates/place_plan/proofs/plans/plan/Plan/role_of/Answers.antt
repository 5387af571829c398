use Rattle.std.proofs.Common.{arith, subst, ◌≤◌, length, true, false, sym, ◌≡◌, ap, ◌∙◌}
use Rattle.caa_base.specs.Written.Limits.{most_roles}
use Rattle.place_plan.specs.Plans.PlanValue.{Plan}
use Rattle.place_plan.specs.inner.PlanView.{plan_view}
use Rattle.place_plan.specs.Plans.Places.{roles_of, action_at, role_row, no_role}
use Rattle.caa_base.specs.Written.Lists.{member}
use Rattle.place_plan.proofs.OnPlans.ClosedPlan.{few_roles, all_played, member_index, no_player}
use Rattle.caa_base.proofs.ListLemmas.{index_within}
use Rattle.place_plan.proofs.plans.plan.Plan.role_of.Goals as goal

pub overflow_cast-result : goal.overflow_cast-result
overflow_cast-result c =
    let few =
    subst (λ (p : Plan). length (roles_of p c.args.place) ≤ most_roles) c.self.view_is
    (few_roles (plan_view c.self.inside) c.self.invariant.closed c.args.place) in
    let same = ap length c.roles_of-roles.ensures in
    omega (arith, few, same, c.index_of.ensures, index_within c.args.by c.roles_of-roles.result.now)

pub returns-then-is_member-clause-known : goal.returns-then-is_member-clause-known
returns-then-is_member-clause-known c =
    let played =
    subst (λ (p : Plan). length (roles_of p c.args.place) ≡ length (action_at p c.args.place).roles) c.self.view_is
    (all_played (plan_view c.self.inside) c.self.invariant.closed c.args.place) in
    let is : member c.args.by c.roles_of-roles.result.now ≡ true = sym c.is_member.ensures ∙ c.if-is_member.true in
    let same = ap length c.roles_of-roles.ensures in
    omega (arith, c.index_of.ensures, member_index c.args.by c.roles_of-roles.result.now is, same, played)

pub returns-else-is_member-clause-idle : goal.returns-else-is_member-clause-idle
returns-else-is_member-clause-idle c = λ none.
    let is : member c.args.by (roles_of c.args.self.now c.args.place) ≡ false =
    ap (member c.args.by) (sym c.roles_of-roles.ensures) ∙ sym c.is_member.ensures ∙ c.if-is_member.false in
    let is_not =
    subst (λ (p : Plan). member c.args.by (roles_of p c.args.place) ≡ false
    → role_row p c.args.place c.args.by ≡ no_role) c.self.view_is
    (no_player (plan_view c.self.inside) c.self.invariant.closed c.args.place c.args.by) in
    is_not is
