use Rattle.std.proofs.Common.{pos, arith}
use Rattle.caa_base.specs.declared.written.entry.Entry.{Entry}
use Rattle.caa_base.specs.declared.written.entry.Kind.TheVariants as kind
use Rattle.cell_workload.proofs.OneMoreEnd.{ends_counted-more}
use Rattle.cell_workload.proofs.counting.ends_counted.Goals as goal

-- what stands past the last entry
abbrev blank : Entry
blank = record { kind = kind.Arrive; place = 0; by = 0; arg = 0; mark = 0; value = pos 0 }

pub loop-entry-preserved : goal.loop-entry-preserved
loop-entry-preserved c =
    let one = c.counted-count.ensures.value in
    let most = c.counted-count.ensures.few in
    let before = c.loop-entry.invariant.0 in
    let few = c.loop-entry.invariant.1 in
    let more = ends_counted-more c.args.mark c.args.entries.now c.loop-entry.entry-index blank c.loop-entry-test.true in
    (omega (arith, one, before, more), omega (arith, most, few))
