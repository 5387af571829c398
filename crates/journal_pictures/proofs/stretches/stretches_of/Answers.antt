use Rattle.std.proofs.Common.{rules, ◌≡◌, ◌∙◌, ◌+◌, ◌<◌, ◌≤◌, ◌^◌, ◌++◌, ◌&&◌, ℕ, List, [], suc, length, eqb, leb, ltb, ap, refl, sym, subst, arith}
use Rattle.std.specs.List.{All, count_by}
use Rattle.std.proofs.lemmas.List.Elements.{All-nil}
use Rattle.std.proofs.lemmas.Result.{IfOk-weaker}
use Rattle.caa_base.specs.declared.written.entry.Entry.{Entry}
use Rattle.place_plan.specs.Plans.PlanValue.{Plan}
use Rattle.journal_states.specs.Past.{plan_in, journal_in, taken_in}
use Rattle.journal_pictures.specs.declared.stretches.Stretch.{Stretch}
use Rattle.journal_pictures.specs.declared.stretches.Told.{Told}
use Rattle.journal_pictures.specs.Stretches.{has_moment, IsShown, IsRight}
use Rattle.journal_pictures.specs.inner.Lanes.{LiesIn, AreOpen, AreOne, one_if}
use Rattle.journal_pictures.proofs.LaneLemmas.{all_further}
use Rattle.journal_pictures.proofs.PartLemmas.{IsFound, found_right, found_one, shown_before, found_first, found_next}
use Rattle.journal_pictures.proofs.stretches.stretches_of.Goals as goal

-- where the part isn't reached, nothing of it is shown
pub returns-then-not-goes_to-clause-right : goal.returns-then-not-goes_to-clause-right
returns-then-not-goes_to-clause-right c =
    let right = All (IsRight c.args.plan.now c.args.entries.now c.args.first c.args.more) in
    let done = c.new-done.result.items in
    let none = c.new-none.result.items in
    let empty : done ++ none ≡ [] = ap (λ (ss : List Stretch). ss ++ none) c.new-done.ensures.items ∙ c.new-none.ensures.items in
    IfOk-weaker c.all_told-nothing.result (λ (told : Told). told.stretches.items ≡ done ++ none)
    (λ (told : Told). right told.stretches.items)
    (λ told is. subst right (sym (is ∙ empty)) (All-nil (IsRight c.args.plan.now c.args.entries.now c.args.first c.args.more)))
    c.all_told-nothing.ensures

pub returns-then-not-goes_to-clause-number : goal.returns-then-not-goes_to-clause-number
returns-then-not-goes_to-clause-number c =
    let plan = c.args.plan.now in
    let entries = c.args.entries.now in
    let s = c.goes_to.new.states in
    let stopped = c.if-not-goes_to.ensures.reached in
    let of = c.goes_to.ensures.plan ∙ c.in_ok-states.ensures.plan in
    let over = c.goes_to.ensures.journal ∙ c.in_ok-states.ensures.journal in
    IfOk-weaker c.all_told-nothing.result (λ (told : Told). told.stretches.items ≡ c.new-done.result.items ++ c.new-none.result.items)
    (λ (told : Told). AreOne plan entries c.args.first c.args.more told.stretches.items)
    (λ told is t k known shown.
    absurd (omega (arith, stopped.0, shown.low, shown_before plan entries c.args.first c.args.more s of over stopped.1 k shown)))
    c.all_told-nothing.ensures

pub begun_all-requires : goal.begun_all-requires
begun_all-requires c =
    let s = c.goes_to.new.states in
    let short : length c.args.entries.now < 2 ^ 63 = search rules in
    let over = c.goes_to.ensures.journal ∙ c.in_ok-states.ensures.journal in
    record { small = omega (arith, s.within, ap (λ (j : List Entry). length j) over, short) }

pub loop-row-init : goal.loop-row-init
loop-row-init c =
    let s = c.goes_to.new.states in
    let of = c.goes_to.ensures.plan ∙ c.in_ok-states.ensures.plan in
    let over = c.goes_to.ensures.journal ∙ c.in_ok-states.ensures.journal in
    let at = c.if-not-goes_to.ensures.reached in
    record {
      within = omega arith;
      taken = omega (arith, at);
      goes = subst (λ (p : Plan). AreOpen (length p.participants) (taken_in s + 1) c.in_ok-going.going.items) of c.in_ok-going.ensures.goes;
      found =
          subst (λ (ss : List Stretch). IsFound c.args.plan.now c.args.entries.now c.args.first s ss c.in_ok-going.going.items)
          (sym c.new-done.ensures.items)
          (found_first c.args.plan.now c.args.entries.now c.args.first s c.in_ok-going.going.items of over at
          c.in_ok-going.ensures.next c.in_ok-going.ensures.number);
    }

pub returns-then-not-step-clause-right : goal.returns-then-not-step-clause-right
returns-then-not-step-clause-right c =
    let s = c.loop-row.states in
    let done = c.loop-row.done.items in
    let going = c.loop-row.going.items in
    let right = All (IsRight c.args.plan.now c.args.entries.now c.args.first c.args.more) in
    IfOk-weaker c.all_told-front.result (λ (told : Told). told.stretches.items ≡ done ++ going)
    (λ (told : Told). right told.stretches.items)
    (λ told is. subst right (sym is)
    (found_right c.args.plan.now c.args.entries.now c.args.first c.args.more s done going c.loop-row.invariant.found
    (omega (arith, c.loop-row.invariant.taken, c.loop-row-test.true)))) c.all_told-front.ensures

pub returns-then-not-step-clause-number : goal.returns-then-not-step-clause-number
returns-then-not-step-clause-number c =
    let plan = c.args.plan.now in
    let entries = c.args.entries.now in
    let s = c.loop-row.states in
    let done = c.loop-row.done.items in
    let going = c.loop-row.going.items in
    let found = c.loop-row.invariant.found in
    let one = AreOne plan entries c.args.first c.args.more in
    IfOk-weaker c.all_told-front.result (λ (told : Told). told.stretches.items ≡ done ++ going)
    (λ (told : Told). one told.stretches.items)
    (λ told is. subst one (sym is)
    (found_one plan entries c.args.first c.args.more s done going found
    (shown_before plan entries c.args.first c.args.more s found.of found.over c.if-not-step.ensures.stepped.1)))
    c.all_told-front.ensures

pub take_in_all-requires-clause-small : goal.take_in_all-requires-clause-small
take_in_all-requires-clause-small c =
    let s = c.step.new.self in
    let short : length c.args.entries.now < 2 ^ 63 = search rules in
    let over = c.step.ensures.journal ∙ c.loop-row.invariant.found.over in
    omega (arith, s.within, ap (λ (j : List Entry). length j) over, short)

pub take_in_all-requires-clause-goes : goal.take_in_all-requires-clause-goes
take_in_all-requires-clause-goes c =
    let s = c.step.new.self in
    let of = c.step.ensures.plan ∙ c.loop-row.invariant.found.of in
    subst (λ (ss : List Stretch). AreOpen (length (plan_in s).participants) (taken_in s) ss) (sym c.deref-former.ensures.value)
    (subst (λ (n : ℕ). AreOpen (length (plan_in s).participants) n c.loop-row.going.items)
    (sym (c.if-not-step.ensures.stepped ∙ plus_one (taken_in c.loop-row.states)))
    (subst (λ (p : Plan). AreOpen (length p.participants) (taken_in c.loop-row.states + 1) c.loop-row.going.items) (sym of)
    c.loop-row.invariant.goes))
  where
    plus_one : (n : ℕ) → suc n ≡ n + 1
    plus_one n = omega arith

pub loop-row-preserved : goal.loop-row-preserved
loop-row-preserved c =
    let s = c.step.new.self in
    let old = c.loop-row.states in
    let found = c.loop-row.invariant.found in
    let of = c.step.ensures.plan ∙ found.of in
    let next = c.in_ok-next.next.items in
    let more : taken_in s ≡ taken_in old + 1 = omega (arith, c.if-not-step.ensures.stepped) in
    let lying = λ (f : ℕ) (all : All (LiesIn (plan_in s) (journal_in s) f (taken_in s)) c.loop-row.going.items).
    subst (All (LiesIn (plan_in s) (journal_in s) f (taken_in s))) (sym c.deref-former.ensures.value) all in
    record {
      within = omega (arith, c.loop-row-test.true);
      taken = omega (arith, more, c.loop-row.invariant.taken);
      goes = subst (λ (p : Plan). AreOpen (length p.participants) (taken_in s + 1) next) of c.in_ok-next.ensures.goes;
      found =
          found_next c.args.plan.now c.args.entries.now c.args.first old s c.loop-row.done.items c.take_in_all.new.done.items
          c.loop-row.going.items next found c.step.ensures.plan c.step.ensures.journal more
          (λ f all. c.in_ok-next.ensures.next f (lying f all))
          (λ f all before. c.in_ok-next.ensures.done f (lying f all) before)
          (λ t k known.
          c.in_ok-next.ensures.number t k known
          ∙ ap (λ (ss : List Stretch). count_by (has_moment t k) c.loop-row.done.items + count_by (has_moment t k) ss
          + one_if (eqb (taken_in s) k)) c.deref-former.ensures.value);
    }

pub returns-clause-right : goal.returns-clause-right
returns-clause-right c =
    let s = c.loop-row.states in
    let done = c.loop-row.done.items in
    let going = c.loop-row.going.items in
    let right = All (IsRight c.args.plan.now c.args.entries.now c.args.first c.args.more) in
    IfOk-weaker c.all_told-whole.result (λ (told : Told). told.stretches.items ≡ done ++ going) (λ (told : Told). right told.stretches.items)
    (λ told is. subst right (sym is)
    (found_right c.args.plan.now c.args.entries.now c.args.first c.args.more s done going c.loop-row.invariant.found
    (omega (arith, c.loop-row.invariant.taken, c.loop-row.invariant.within)))) c.all_told-whole.ensures

pub returns-clause-number : goal.returns-clause-number
returns-clause-number c =
    let s = c.loop-row.states in
    let done = c.loop-row.done.items in
    let going = c.loop-row.going.items in
    let one = AreOne c.args.plan.now c.args.entries.now c.args.first c.args.more in
    IfOk-weaker c.all_told-whole.result (λ (told : Told). told.stretches.items ≡ done ++ going) (λ (told : Told). one told.stretches.items)
    (λ told is. subst one (sym is)
    (found_one c.args.plan.now c.args.entries.now c.args.first c.args.more s done going c.loop-row.invariant.found
    (λ k shown. omega (arith, shown.high, c.loop-row.invariant.taken, c.loop-row-test.false)))) c.all_told-whole.ensures
