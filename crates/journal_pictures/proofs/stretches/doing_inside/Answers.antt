use Rattle.std.proofs.Common.{refl}
use Rattle.place_plan.specs.RulesOfJournals.Machine.{work_entry}
use Rattle.journal_states.specs.Past.{plan_in, past_in}
use Rattle.journal_pictures.specs.declared.stretches.Doing.TheVariants as doing
use Rattle.journal_pictures.proofs.StretchLemmas.{has_to_wait, may_go, may_rest}
use Rattle.journal_pictures.proofs.stretches.doing_inside.Goals as goal

pub returns-in-Wait-clause-waits : goal.returns-in-Wait-clause-waits
returns-in-Wait-clause-waits c =
    let s = c.args.states.now in
    has_to_wait (plan_in s) (past_in s) c.args.by c.in-Wait.wait (c.in-Wait.ensures c.requires)

pub returns-in-Over-clause-waits : goal.returns-in-Over-clause-waits
returns-in-Over-clause-waits c =
    let s = c.args.states.now in
    let h = c.in-Over.ensures c.requires in
    may_rest (plan_in s) (past_in s) c.args.by doing.Turn refl h.1

pub returns-in-Put-clause-waits : goal.returns-in-Put-clause-waits
returns-in-Put-clause-waits c =
    let s = c.args.states.now in
    let h = c.in-Put.ensures c.requires in
    may_go (plan_in s) (past_in s) c.args.by c.doing_before.result c.in-Put.entry
    c.doing_before.ensures.goes h.own.0 h.may.0

pub returns-in-Make-clause-waits : goal.returns-in-Make-clause-waits
returns-in-Make-clause-waits c =
    let s = c.args.states.now in
    let h = c.in-Make.ensures c.requires in
    may_go (plan_in s) (past_in s) c.args.by c.doing_before-in-Make.result c.in-Make.entry
    c.doing_before-in-Make.ensures.goes h.next.own h.next.may

pub returns-in-Mix-clause-waits : goal.returns-in-Mix-clause-waits
returns-in-Mix-clause-waits c =
    let s = c.args.states.now in
    let work = c.in-Mix.field-0 in
    let h = c.in-Mix.ensures c.requires in
    may_go (plan_in s) (past_in s) c.args.by c.doing_before-in-Mix.result
    (work_entry work.place c.args.by work.rounds work.from)
    c.doing_before-in-Mix.ensures.goes h.next.own h.next.may
