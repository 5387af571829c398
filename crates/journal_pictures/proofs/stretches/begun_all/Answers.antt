use Rattle.std.proofs.Common.{◌≡◌, ◌∙◌, ◌∷◌, [], ◌++◌, ◌+◌, ◌<◌, ◌≤◌, ℕ, length, ap, sym, subst, arith, eqb, ltb, ◌&&◌}
use Rattle.std.specs.List.{All, count_by}
use Rattle.std.proofs.lemmas.List.Elements.{All-push}
use Rattle.place_plan.specs.Plans.PlanValue.{Plan}
use Rattle.journal_states.specs.Past.{plan_in, journal_in, taken_in}
use Rattle.journal_pictures.specs.declared.stretches.Doing.{Doing}
use Rattle.journal_pictures.specs.Stretches.{IsRightAt, has_moment}
use Rattle.journal_pictures.specs.inner.Lanes.{LiesIn, GoesTo, AreOpen, one_if}
use Rattle.journal_pictures.proofs.LaneLemmas.{open_more, begun_more, lies_begun, all_below}
use Rattle.journal_pictures.proofs.stretches.begun_all.Goals as goal

pub loop-lane-preserved : goal.loop-lane-preserved
loop-lane-preserved c =
    let states = c.args.states.now in
    let plan = plan_in states in
    let entries = journal_in states in
    let m = taken_in states in
    let lane = c.loop-lane.lane in
    let next = c.loop-lane.next.items in
    let b = c.begun.result in
    let so_far = c.loop-lane.invariant in
    let from = c.begun.ensures.from ∙ c.taken-moment.ensures in
    let to = c.begun.ensures.to ∙ ap (λ n. n + 1) c.taken-moment.ensures in
    let known : lane < length plan.participants = omega (arith, c.loop-lane-test.true, c.participants-lane-end.ensures, ap (λ (p : Plan). length p.participants) c.plan.ensures) in
    let items : c.push.new.self.items ≡ next ++ b ∷ [] = c.in_ok-push.ensures.items in
    let here =
    subst (λ (t : ℕ). IsRightAt plan entries m t b.doing) (sym c.begun.ensures.lane)
    (subst (λ (d : Doing). IsRightAt plan entries m lane d) (sym c.begun.ensures.doing) c.doing_of.ensures) in
    record {
      within = omega (arith, known);
      goes =
          subst (AreOpen (lane + 1) (m + 1)) (sym items)
          (open_more lane (m + 1) next b so_far.goes
          (record { lane = c.begun.ensures.lane; lasts = omega (arith, c.begun.ensures.from, c.begun.ensures.to); met = to }));
      next =
          subst (All (LiesIn plan entries m (m + 1))) (sym items)
          (All-push (LiesIn plan entries m (m + 1)) next b so_far.next
          (lies_begun plan entries m m b (rw c.begun.ensures.lane known) (omega arith) from to here));
      number = λ t k. rw items (begun_more t k m lane next b c.begun.ensures.lane from to (so_far.number t k));
    }

pub returns-clause-goes : goal.returns-clause-goes
returns-clause-goes c =
    subst (λ (n : ℕ). AreOpen n (taken_in c.args.states.now + 1) c.loop-lane.next.items)
    (omega (
      arith,
      c.loop-lane-test.false,
      c.loop-lane.invariant.within,
      c.participants-lane-end.ensures,
      ap (λ (p : Plan). length p.participants) c.plan.ensures,
    )) c.loop-lane.invariant.goes

pub returns-clause-number : goal.returns-clause-number
returns-clause-number c =
    λ t k low.
    let n = length (plan_in c.args.states.now).participants in
    let b = eqb (taken_in c.args.states.now) k in
    let end : c.loop-lane.lane ≡ n = omega (
      arith,
      c.loop-lane-test.false,
      c.loop-lane.invariant.within,
      c.participants-lane-end.ensures,
      ap (λ (p : Plan). length p.participants) c.plan.ensures,
    ) in
    omega (arith, c.loop-lane.invariant.number t k, ap (λ (i : ℕ). one_if (ltb t i && b)) end, all_below t n b low)
