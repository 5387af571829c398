use Rattle.std.proofs.Common.{◌≡◌, ◌∙◌, arith, reverse, subst, sym, Some, to_z, of_z, w64}
use Rattle.std.proofs.lemmas.Int.{ints}
use Rattle.place_plan.specs.declared.drafts.draft_rows.Step.TheVariants as step
use Rattle.caa_base.specs.Written.Limits.{IsValue}
use Rattle.journal_laws.proofs.PlayablePlan.{is_playable}
use Rattle.journal_replay.proofs.StepsFit.{register_fits, read_fits, put_object_fits, add_object_fits, added_fits}
use Rattle.journal_replay.proofs.rule.due_step.Goals as goal

pub clamped-value-requires-clause-register : goal.clamped-value-requires-clause-register
clamped-value-requires-clause-register g c =
    let plan = c.args.past.now.plan.now in
    let past = reverse c.args.past.now.journal.now in
    let same : to_z w64 (of_z w64 c.args.from) ≡ c.args.from = omega (arith, ints) in
    subst IsValue (sym (same ∙ c.requires.start))
    (register_fits plan past c.args.place c.args.by (c.is_well_formed.ensures past c.args.past.now.legal))

pub clamped-value-requires-clause-number : goal.clamped-value-requires-clause-number
clamped-value-requires-clause-number g c =
    let plan = c.args.past.now.plan.now in
    let same : to_z w64 (of_z w64 c.in-Some-Add.number) ≡ c.in-Some-Add.number = omega (arith, ints) in
    let next : Some (step.Add c.in-Some-Add.object c.in-Some-Add.number) ≡ c.args.step = grind arith in
    subst IsValue (sym same)
    (added_fits plan (is_playable plan c.is_closed.ensures)
    (reverse c.args.past.now.journal.now) c.args.place c.args.by c.in-Some-Add.object c.in-Some-Add.number
    (next ∙ c.requires.step))

pub due_read-requires-clause-known : goal.due_read-requires-clause-known
due_read-requires-clause-known g c =
    let plan = c.args.past.now.plan.now in
    let next : Some (step.Read c.in-Some-Read.object) ≡ c.args.step = grind arith in
    read_fits plan (is_playable plan c.is_closed.ensures)
    (reverse c.args.past.now.journal.now) c.args.place c.args.by c.in-Some-Read.object (next ∙ c.requires.step)

pub due_write-requires-clause-known : goal.due_write-requires-clause-known
due_write-requires-clause-known g c =
    let plan = c.args.past.now.plan.now in
    let next : Some (step.Put c.in-Some-Put.object c.in-Some-Put.value) ≡ c.args.step = grind arith in
    put_object_fits plan (is_playable plan c.is_closed.ensures)
    (reverse c.args.past.now.journal.now) c.args.place c.args.by c.in-Some-Put.object c.in-Some-Put.value (next ∙ c.requires.step)

pub due_write-requires-in-Some-Add-clause-known : goal.due_write-requires-in-Some-Add-clause-known
due_write-requires-in-Some-Add-clause-known g c =
    let plan = c.args.past.now.plan.now in
    let next : Some (step.Add c.in-Some-Add.object c.in-Some-Add.number) ≡ c.args.step = grind arith in
    add_object_fits plan (is_playable plan c.is_closed.ensures)
    (reverse c.args.past.now.journal.now) c.args.place c.args.by c.in-Some-Add.object c.in-Some-Add.number (next ∙ c.requires.step)
