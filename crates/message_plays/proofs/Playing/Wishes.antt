-- What members wish, of a plan that was closed, and who they are.
use Rattle.std.proofs.Common.{◌≡◌, ℕ, suc, ◌+◌, ◌-◌, ◌<◌, List, length, slice_get, slice_index_or, Option, Some, None, sym, ap, ◌∙◌, subst, arith}
use Rattle.std.proofs.lemmas.Bool.{ltb-true}
use Rattle.cover_table.specs.Cover.{IsSound}
use Rattle.place_plan.specs.Plans.PlanValue.{Plan}
use Rattle.place_plan.specs.Plans.Places.{roles_of, body_of}
use Rattle.place_plan.specs.Plans.Closed.{IsClosed}
use Rattle.place_plan.specs.declared.drafts.draft_rows.Step.{Step}
use Rattle.place_plan.specs.declared.drafts.draft_rows.Step.TheVariants as step
use Rattle.place_plan.proofs.OnPlans.Casts.{member_at}
use Rattle.journal_laws.proofs.PlayablePlan.{is_playable}
use Rattle.message_plays.specs.Turns.{members, order_of, participant, raised_first, wish, wished_or, first_wish}

-- each member is a participant
pub member_known : (plan : Plan) → IsClosed plan → (roles : List ℕ) (m : ℕ) → roles ≡ roles_of plan 0 → m < members plan
    → slice_index_or roles m 0 < length plan.participants
member_known plan closed roles m same m_in =
    let playable = is_playable plan closed in
    subst (λ rs. slice_index_or rs m 0 < length plan.participants) (sym same)
    (playable.known 0 (slice_index_or (roles_of plan 0) m 0) (member_at (roles_of plan 0) m 0 m_in))

-- the exceptions of the first place have least covers
pub sound_order : (plan : Plan) → IsClosed plan → IsSound (order_of plan)
sound_order plan closed = let playable = is_playable plan closed in (playable.sound 0).0

first_raise : (found : Option Step) (e : ℕ) → raised_first found ≡ Some e → found ≡ Some (step.Raise e)
first_raise None e is = absurd cc
first_raise (Some (step.Read o)) e is = absurd cc
first_raise (Some (step.Put o v)) e is = absurd cc
first_raise (Some (step.Add o v)) e is = absurd cc
first_raise (Some (step.Work k)) e is = absurd cc
first_raise (Some (step.Check test v x)) e is = absurd cc
first_raise (Some (step.Raise x)) e is = let same : x ≡ e = cc in ap (λ y. Some (step.Raise y)) same
first_raise (Some (step.Enter n)) e is = absurd cc

-- each wish is an exception of the first place
pub wish_in : (plan : Plan) → IsClosed plan → (m e : ℕ) → wish plan m ≡ Some e → e < (order_of plan).count
wish_in plan closed m e is =
    let playable = is_playable plan closed in
    let found = first_raise (slice_get (body_of plan 0 (participant plan m)).steps 0) e is in
    ltb-true e (order_of plan).count (playable.steps 0 (participant plan m) None 0 (step.Raise e) found)

-- a member that wishes nothing is passed over
pub first_wish-none : (plan : Plan) (m all : ℕ) → m < all → wish plan m ≡ None
    → first_wish plan m (all - m) ≡ first_wish plan (m + 1) (all - (m + 1))
unfolding first_wish
first_wish-none plan m all less none =
    let left : all - m ≡ suc (all - (m + 1)) = omega arith in
    ap (first_wish plan m) left ∙ ap (λ o. wished_or m o (first_wish plan (m + 1) (all - (m + 1)))) none

-- the first that wishes something is found
pub first_wish-some : (plan : Plan) (m all e : ℕ) → m < all → wish plan m ≡ Some e → first_wish plan m (all - m) ≡ Some (m, e)
unfolding first_wish
first_wish-some plan m all e less some =
    let left : all - m ≡ suc (all - (m + 1)) = omega arith in
    ap (first_wish plan m) left ∙ ap (λ o. wished_or m o (first_wish plan (m + 1) (all - (m + 1)))) some

-- of none at all nobody wishes
pub first_wish-end : (plan : Plan) (m none : ℕ) → none ≡ 0 → first_wish plan m none ≡ None
unfolding first_wish
first_wish-end plan m none is = ap (first_wish plan m) is
