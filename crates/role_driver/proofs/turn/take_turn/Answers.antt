use Rattle.std.proofs.Common.{◌≡◌, ◌∙◌, ℕ, true, false, arith, reverse, subst, sym}
use Rattle.cover_table.specs.Cover.{has_bit}
use Rattle.std.proofs.lemmas.Bool.{both_ways}
use Rattle.place_plan.specs.RulesOfJournals.Journals.{HasNoEntry, IsComplete}
use Rattle.journal_laws.specs.Laws.{Holds, GoesOn, SleepsOn, wakes}
use Rattle.role_driver.specs.Schedule.{Acts}
use Rattle.role_driver.specs.Working.{IsToldInPlace}
use Rattle.role_driver.specs.inner.Sleeping.{AllSleep}
use Rattle.role_driver.proofs.GoingRound.{round_silent, asked_by, silent_more}
use Rattle.role_driver.proofs.SleepOn.{one_more_sleeps, unwoken_sleep}
use Rattle.role_driver.proofs.Told.{goes_nowhere}
use Rattle.role_driver.proofs.turn.take_turn.Goals as goal

pub loop-others-preserved-then-is_in : goal.loop-others-preserved-then-is_in
loop-others-preserved-then-is_in g c =
    let kept = c.loop-others.invariant in
    let plan = g.M.Machine.plan_of c.args.machine.now in
    let past = reverse (g.M.Machine.journal_of c.args.machine.now) in
    let by = c.participant_asked-by.result in
    let asked =
    asked_by plan c.participants-participants.result c.args.first c.first_asked-start.result c.loop-others.others by kept.known
    c.loop-others-test.true c.first_asked-start.ensures.value c.participant_asked-by.ensures.value in
    let silent = kept.sleep by (sym c.is_in.ensures ∙ c.if-is_in.true) in
    record {
      plan = kept.plan;
      base = kept.base;
      count = kept.count;
      journal = kept.journal;
      known = kept.known;
      sleep = kept.sleep;
      before = silent_more plan past c.args.first c.loop-others.others by asked silent kept.before;
    }

pub loop-others-preserved : goal.loop-others-preserved
loop-others-preserved g c =
    let kept = c.loop-others.invariant in
    let plan = g.M.Machine.plan_of c.args.machine.now in
    let old = g.M.Machine.journal_of c.args.machine.now in
    let by = c.participant_asked-by.result in
    let asked =
    asked_by plan c.participants-participants.result c.args.first c.first_asked-start.result c.loop-others.others by kept.known
    c.loop-others-test.true c.first_asked-start.ensures.value c.participant_asked-by.ensures.value in
    let is = c.in-None.ensures in
    let silent : HasNoEntry plan (reverse old) by =
    subst (λ j. HasNoEntry plan (reverse j) by) kept.journal
    (subst (λ p. HasNoEntry p (reverse (g.M.Machine.journal_of c.loop-others.machine)) by) kept.plan is.acts.silent) in
    record {
      plan = is.plan ∙ kept.plan;
      base = is.base ∙ kept.base;
      count = omega (arith, kept.count, is.count);
      journal = is.acts.same ∙ kept.journal;
      known = kept.known;
      sleep = one_more_sleeps plan old c.loop-others.asleep c.with.result by c.with.ensures kept.sleep silent;
      before = silent_more plan (reverse old) c.args.first c.loop-others.others by asked silent kept.before;
    }

pub returns-in-Some-clause-turn : goal.returns-in-Some-clause-turn
returns-in-Some-clause-turn g c = λ yes.
    let kept = c.loop-others.invariant in
    let plan = g.M.Machine.plan_of c.args.machine.now in
    let new = g.M.Machine.journal_of c.act.new.machine in
    let by = c.participant_asked-by.result in
    let asked =
    asked_by plan c.participants-participants.result c.args.first c.first_asked-start.result c.loop-others.others by kept.known
    c.loop-others-test.true c.first_asked-start.ensures.value c.participant_asked-by.ensures.value in
    let acts = subst (λ j. Acts plan j new by c.in-Some.entry) kept.journal
    (subst (λ p. Acts p (g.M.Machine.journal_of c.loop-others.machine) new by c.in-Some.entry) kept.plan c.in-Some.ensures.acts) in
    record {
      entry = c.in-Some.entry;
      added = acts.added;
      may = acts.may;
      turn = record { others = c.loop-others.others; own = acts.own ∙ asked; before = kept.before };
    }

pub returns-in-Some-clause-sleep : goal.returns-in-Some-clause-sleep
returns-in-Some-clause-sleep g c =
    let kept = c.loop-others.invariant in
    let plan = g.M.Machine.plan_of c.args.machine.now in
    let old = g.M.Machine.journal_of c.args.machine.now in
    let new = g.M.Machine.journal_of c.act.new.machine in
    let by = c.participant_asked-by.result in
    let crew = c.loop-others.asleep in
    let left = c.unwoken.result in
    let acts = subst (λ j. Acts plan j new by c.in-Some.entry) kept.journal
    (subst (λ p. Acts p (g.M.Machine.journal_of c.loop-others.machine) new by c.in-Some.entry) kept.plan c.in-Some.ensures.acts) in
    let same = c.in-Some.ensures.plan ∙ kept.plan in
    let law = subst (Holds SleepsOn) (c.plan-in-Some.ensures ∙ same) c.sleeps_on.ensures in
    let awake : has_bit crew by ≡ false = sym c.is_in.ensures ∙ c.if-is_in.false in
    let leaves =
    subst (λ p. (s : ℕ) → has_bit left s ≡ true → (has_bit crew s ≡ true) × (wakes p (reverse new) c.in-Some.entry s ≡ false))
    same c.unwoken.ensures in
    subst (λ p. AllSleep p new left) (sym same)
    (unwoken_sleep plan old new by c.in-Some.entry crew left law (g.met.M.Machine.legal c.args.machine.now) acts awake kept.sleep leaves)

pub returns-then-complete-clause-done : goal.returns-then-complete-clause-done
returns-then-complete-clause-done g c = λ no.
    let kept = c.loop-others.invariant in
    let plan = g.M.Machine.plan_of c.args.machine.now in (
      subst (λ j. IsComplete plan j) kept.journal
          (subst (λ p. IsComplete p (g.M.Machine.journal_of c.loop-others.machine)) kept.plan (c.complete.ensures.0 c.if-complete.true)),
      kept.journal,
    )

pub returns-then-complete-clause-sleep : goal.returns-then-complete-clause-sleep
returns-then-complete-clause-sleep g c =
    let kept = c.loop-others.invariant in
    subst (λ j. AllSleep (g.M.Machine.plan_of c.loop-others.machine) j c.loop-others.asleep) (sym kept.journal)
    (subst (λ p. AllSleep p (g.M.Machine.journal_of c.args.machine.now) c.loop-others.asleep) (sym kept.plan) kept.sleep)

pub returns-then-complete-clause-told : goal.returns-then-complete-clause-told
returns-then-complete-clause-told g c =
    goes_nowhere (IsToldInPlace (g.G.Gate.was_told c.args.gate.now)) (g.M.Machine.journal_of c.args.machine.now)
    (g.M.Machine.journal_of c.loop-others.machine) c.loop-others.invariant.journal

-- where nobody has an entry, the plays are over
pub unreachable-requires : goal.unreachable-requires
unreachable-requires g c =
    let kept = c.loop-others.invariant in
    let plan = g.M.Machine.plan_of c.args.machine.now in
    let old = g.M.Machine.journal_of c.args.machine.now in
    let goes_on = subst (Holds GoesOn) c.plan.ensures c.goes_on.ensures (reverse old) (g.met.M.Machine.legal c.args.machine.now) in
    let unfinished : IsComplete plan old → ⊥ =
    λ done. both_ways _ c.if-complete.false
    (c.complete.ensures.1
    (subst (λ p. IsComplete p (g.M.Machine.journal_of c.loop-others.machine)) (sym kept.plan)
    (subst (λ j. IsComplete plan j) (sym kept.journal) done))) in
    round_silent plan (reverse old) c.args.first (λ i l. kept.before i (omega (arith, kept.known))) (goes_on unfinished)
