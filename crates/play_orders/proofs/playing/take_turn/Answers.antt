use Rattle.std.proofs.Common.{◌∙◌, reverse, subst, sym}
use Rattle.journal_laws.specs.Laws.{Holds, GoesOn, SleepsOn}
use Rattle.play_orders.specs.Asking.{Acts, AllSleep}
use Rattle.play_orders.proofs.Awake.{somebody_is_awake, unwoken_sleep, fewer}
use Rattle.play_orders.proofs.playing.take_turn.Goals as goal

pub pick-by-requires-clause-awake : goal.pick-by-requires-clause-awake
pick-by-requires-clause-awake g c =
    let kept = c.asking.invariant in
    let plan = g.M.Machine.plan_of c.args.machine.now in
    let old = g.M.Machine.journal_of c.args.machine.now in
    let goes_on = subst (Holds GoesOn) c.plan.ensures c.goes_on.ensures (reverse old) (g.met.M.Machine.legal c.args.machine.now) in
    somebody_is_awake plan old c.asking.asleep c.participants-participants.result kept.known kept.sleep (goes_on c.requires.unfinished)

pub returns-in-Some-clause-sleep : goal.returns-in-Some-clause-sleep
returns-in-Some-clause-sleep g c =
    let kept = c.asking.invariant in
    let plan = g.M.Machine.plan_of c.args.machine.now in
    let old = g.M.Machine.journal_of c.args.machine.now in
    let new = g.M.Machine.journal_of c.act.new.machine in
    let by = c.pick-by.result in
    let crew = c.asking.asleep in
    let left = c.sleeping_on.result in
    let acts = subst (λ j. Acts plan j new by c.in-Some.entry) kept.journal
    (subst (λ p. Acts p (g.M.Machine.journal_of c.asking.machine) new by c.in-Some.entry) kept.plan c.in-Some.ensures.acts) in
    let same = c.in-Some.ensures.plan ∙ kept.plan in
    let law = subst (Holds SleepsOn) (c.plan-in-Some.ensures ∙ same) c.sleeps_on.ensures in
    subst (λ p. AllSleep p new left) (sym same)
    (unwoken_sleep plan old new by c.in-Some.entry crew left law (g.met.M.Machine.legal c.args.machine.now) acts
    c.pick-by.ensures.awake kept.sleep c.sleeping_on.ensures)

pub asking-smaller : goal.asking-smaller
asking-smaller g c =
    fewer c.asking.asleep c.with.result c.pick-by.result c.participants-participants.result c.with.ensures c.pick-by.ensures.awake
    c.pick-by.ensures.known
