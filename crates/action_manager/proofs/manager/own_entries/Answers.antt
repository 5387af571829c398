use Rattle.std.proofs.Common.{◌<◌, ◌≤◌, ◌==◌, ap, ◌∙◌, arith, length}
use Rattle.std.proofs.lemmas.List.{take_all}
use Rattle.std.proofs.lemmas.List.Filters.{length-filter_more}
use Rattle.std.proofs.lemmas.Bool.Decides.{nat_tests}
use Rattle.caa_base.specs.declared.written.entry.Entry.{Entry}
use Rattle.action_manager.specs.OwnEntries.{entries_by}
use Rattle.action_manager.proofs.manager.own_entries.Goals as goal

pub entry-requires : goal.entry-requires
entry-requires g c = omega (arith, c.loop-index-test.true, c.loop-index.invariant.2)

pub loop-index-preserved : goal.loop-index-preserved
loop-index-preserved g c =
    let journal = g.M.Machine.journal_of c.args.machine.now in let i = c.loop-index.index in let by = c.args.by in
    let low : i < length journal = omega (arith, c.loop-index-test.true, c.loop-index.invariant.2) in
    let more = length-filter_more (λ (e : Entry). e.by == by) journal i c.entry.result low in
    grind (arith, nat_tests, more)

pub returns : goal.returns
returns g c =
    let journal = g.M.Machine.journal_of c.args.machine.now in let i = c.loop-index.index in let inv = c.loop-index.invariant in
    let all : length journal ≤ i = omega (arith, c.loop-index-test.false, inv.2) in
    inv.0 ∙ ap (λ j. length (entries_by c.args.by j)) (take_all i journal all)
