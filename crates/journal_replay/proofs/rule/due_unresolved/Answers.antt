use Rattle.std.proofs.Common.{◌≡◌, ◌∙◌, true, reverse, sym, ap, Some}
use Rattle.place_plan.specs.RulesOfJournals.Raising.{all_are_halted}
use Rattle.journal_laws.specs.Due.{due_resolve}
use Rattle.journal_replay.proofs.rule.due_unresolved.Goals as goal

pub returns-then-all_are_halted-clause-entry : goal.returns-then-all_are_halted-clause-entry
returns-then-all_are_halted-clause-entry g c =
    let p = c.args.place in
    let together : all_are_halted c.args.past.now.plan.now (reverse c.args.past.now.journal.now) p ≡ true =
    sym c.all_are_halted.ensures ∙ c.if-all_are_halted.true in
    rw together (ap Some c.marked.ensures ∙ ap (due_resolve p c.args.by) c.least_cover-exception.ensures)
