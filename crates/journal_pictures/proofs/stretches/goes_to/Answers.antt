use Rattle.std.proofs.Common.{◌≡◌, ◌∙◌, ◌+◌, suc, ap, sym, arith}
use Rattle.journal_states.specs.Past.{plan_in, journal_in, taken_in}
use Rattle.journal_pictures.proofs.PartLemmas.{ends_there}
use Rattle.journal_pictures.proofs.stretches.goes_to.Goals as goal

pub returns-then-not-step-clause-reached : goal.returns-then-not-step-clause-reached
returns-then-not-step-clause-reached c =
    let old = c.loop-made.states in
    let new = c.step.new.self in
    let stepped = c.if-not-step.ensures.stepped in (
      omega (arith, stepped.0, c.loop-made.invariant.taken, c.loop-made-test.true),
      ends_there old (plan_in new) (journal_in new) (taken_in new) (sym c.step.ensures.plan) (sym c.step.ensures.journal) (sym stepped.0)
          stepped.1,
    )
