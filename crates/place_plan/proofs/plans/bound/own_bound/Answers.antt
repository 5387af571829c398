-- What is counted of a product tells what is counted of its parts.
use Rattle.std.proofs.Common.{◌≡◌, ℕ, ◌+◌, ◌*◌, length, zero, suc, ap, ◌∙◌, arith}
use Rattle.std.proofs.Math.Nat.{suc-mul}
use Rattle.place_plan.specs.Plans.Bound.{longest_body, longest_handler, action_bound}
use Rattle.place_plan.specs.Plans.Weights.{counted}
use Rattle.place_plan.proofs.plans.bound.own_bound.Goals as goal

counted_mul : (a b : ℕ) → counted (a * counted b) ≡ counted (a * b)
counted_mul zero b = omega arith
counted_mul (suc a) b = omega (arith, suc-mul a (counted b), suc-mul a b, counted_mul a b)

pub returns : goal.returns
unfolding action_bound
returns c =
    let roles = c.args.action.now.roles in
    let steps : c.counted_sum-steps.result
    ≡ counted (8 + longest_body c.as_slice-roles.result.now + longest_handler c.as_slice-roles.result.now) =
    omega arith in
    let played : c.counted_product-played.result
    ≡ counted (length c.as_slice-roles.result.now * (8 + longest_body c.as_slice-roles.result.now + longest_handler
    c.as_slice-roles.result.now)) =
    c.counted_product-played.ensures ∙ ap (λ s. counted (length c.as_slice-roles.result.now * s)) steps
    ∙ counted_mul (length c.as_slice-roles.result.now)
    (8 + longest_body c.as_slice-roles.result.now + longest_handler c.as_slice-roles.result.now) in
    rw (← c.as_slice-roles.ensures) (omega (arith, played))
