use Rattle.std.proofs.Common.{◌≡◌, ◌∙◌, ◌+◌, ◌≤◌, ℕ, cond, eqb, ◌&&◌, ap, sym, subst, arith}
use Rattle.std.specs.List.{All, count_by}
use Rattle.std.proofs.lemmas.List.Elements.{All-push}
use Rattle.std.proofs.lemmas.List.Sums.{sum_by_push}
use Rattle.journal_states.specs.Past.{plan_in, journal_in, taken_in}
use Rattle.journal_pictures.specs.declared.stretches.Doing.{Doing}
use Rattle.journal_pictures.specs.declared.stretches.Stretch.{Stretch}
use Rattle.journal_pictures.specs.Stretches.{IsRightAt, has_moment}
use Rattle.journal_pictures.specs.inner.Lanes.{LiesIn, one_if}
use Rattle.place_plan.specs.Plans.PlanValue.{Plan}
use Rattle.journal_pictures.proofs.LaneLemmas.{lies_begun, lies_longer, longer_has, begun_has}
use Rattle.journal_pictures.proofs.stretches.take_in.Goals as goal

pub returns-then-is_same-clause-goes : goal.returns-then-is_same-clause-goes
returns-then-is_same-clause-goes c = record {
  lane = c.longer.ensures.lane;
  lasts = omega (arith, c.requires.lasts, c.requires.met, c.longer.ensures.from, c.longer.ensures.to, c.taken-moment.ensures);
  met = c.longer.ensures.to ∙ ap (λ n. n + 1) c.taken-moment.ensures;
}

pub returns-then-is_same-clause-next : goal.returns-then-is_same-clause-next
returns-then-is_same-clause-next c =
    λ first lies.
    let s = c.args.states.now in
    lies_longer (plan_in s) (journal_in s) first (taken_in s) c.args.former.now c.longer.result c.doing_of-doing.result lies c.requires.met
    c.longer.ensures.lane c.longer.ensures.doing c.longer.ensures.from (c.longer.ensures.to ∙ ap (λ n. n + 1) c.taken-moment.ensures)
    (c.is_same.ensures.waits c.if-is_same.true) (c.is_same.ensures.away c.if-is_same.true) c.doing_of-doing.ensures

pub returns-then-is_same-clause-done : goal.returns-then-is_same-clause-done
returns-then-is_same-clause-done c = λ first lies all. all

pub returns-then-is_same-clause-number : goal.returns-then-is_same-clause-number
returns-then-is_same-clause-number c =
    λ t k.
    let m = taken_in c.args.states.now in
    omega (
      arith,
      longer_has t k m c.args.former.now c.longer.result (omega (arith, c.requires.lasts, c.requires.met)) c.requires.met
          c.longer.ensures.lane c.longer.ensures.from (c.longer.ensures.to ∙ ap (λ n. n + 1) c.taken-moment.ensures),
    )

pub returns-clause-goes : goal.returns-clause-goes
returns-clause-goes c = record {
  lane = c.begun.ensures.lane;
  lasts = omega (arith, c.begun.ensures.from, c.begun.ensures.to);
  met = c.begun.ensures.to ∙ ap (λ n. n + 1) c.taken-moment.ensures;
}

pub returns-clause-next : goal.returns-clause-next
returns-clause-next c =
    λ first lies.
    let s = c.args.states.now in
    let plan = plan_in s in
    let entries = journal_in s in
    let m = taken_in s in
    let b = c.begun.result in
    let here =
    subst (λ (t : ℕ). IsRightAt plan entries m t b.doing) (sym c.begun.ensures.lane)
    (subst (λ (d : Doing). IsRightAt plan entries m c.args.former.now.lane d) (sym c.begun.ensures.doing) c.doing_of-doing.ensures) in
    lies_begun plan entries first m b (rw c.begun.ensures.lane c.requires.known)
    (omega (arith, lies.low, lies.lasts, lies.high))
    (c.begun.ensures.from ∙ c.taken-moment.ensures) (c.begun.ensures.to ∙ ap (λ n. n + 1) c.taken-moment.ensures) here

pub returns-clause-done : goal.returns-clause-done
returns-clause-done c =
    λ first lies all.
    let s = c.args.states.now in
    let right = LiesIn (plan_in s) (journal_in s) first (taken_in s) in
    subst (All right) (sym c.in_ok-push.ensures.items) (All-push right c.args.done.now.items c.args.former.now all lies)

pub returns-clause-number : goal.returns-clause-number
returns-clause-number c =
    λ t k.
    let m = taken_in c.args.states.now in
    let b = c.begun.result in
    let one = begun_has t k m b (c.begun.ensures.from ∙ c.taken-moment.ensures)
    (c.begun.ensures.to ∙ ap (λ n. n + 1) c.taken-moment.ensures) in
    let same = ap (λ (l : ℕ). one_if (eqb l t && eqb m k)) c.begun.ensures.lane in
    let more = ap (count_by (has_moment t k)) c.in_ok-push.ensures.items
    ∙ sum_by_push (λ (x : Stretch). cond (has_moment t k x) 1 0) c.args.done.now.items c.args.former.now in
    omega (arith, one, same, more)
