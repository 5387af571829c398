use Rattle.std.proofs.Common.{◌≡◌, ◌-◌, ◌<◌, length, ap, sym, ◌∙◌, arith}
use Rattle.place_plan.proofs.OnPlans.ClosedPlan.{few_roles}
use Rattle.message_plays.specs.Turns.{members, first_wish}
use Rattle.message_plays.proofs.Playing.Wishes.{first_wish-none, first_wish-some, first_wish-end}
use Rattle.message_plays.proofs.wishes.first_wish.Goals as goal

pub overflow_cast-count : goal.overflow_cast-count
overflow_cast-count c = omega (arith, few_roles c.args.plan.now c.is_closed.ensures 0, ap length c.roles_of.ensures)

pub loop-member-init : goal.loop-member-init
loop-member-init c =
    let all = members c.args.plan.now in
    let whole : all - 0 ≡ all = omega arith in
    ap (first_wish c.args.plan.now 0) whole

pub returns-in-Some-clause-wish : goal.returns-in-Some-clause-wish
returns-in-Some-clause-wish c =
    let plan = c.args.plan.now in
    let m = c.loop-member.member in
    let less : m < members plan = omega (arith, c.loop-member-test.true, ap length c.roles_of.ensures) in
    sym (first_wish-some plan m (members plan) c.in-Some.exception less (sym c.wish.ensures.wish ∙ c.in-Some.is)) ∙ c.loop-member.invariant

pub loop-member-preserved : goal.loop-member-preserved
loop-member-preserved c =
    let plan = c.args.plan.now in
    let m = c.loop-member.member in
    let less : m < members plan = omega (arith, c.loop-member-test.true, ap length c.roles_of.ensures) in
    sym (first_wish-none plan m (members plan) less (sym c.wish.ensures.wish ∙ c.in_default.is)) ∙ c.loop-member.invariant

pub returns-clause-wish : goal.returns-clause-wish
returns-clause-wish c =
    let plan = c.args.plan.now in
    let m = c.loop-member.member in
    let none : members plan - m ≡ 0 = omega (arith, c.loop-member-test.false, ap length c.roles_of.ensures) in
    sym (first_wish-end plan m (members plan - m) none) ∙ c.loop-member.invariant
