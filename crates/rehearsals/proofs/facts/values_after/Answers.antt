use Rattle.std.proofs.Common.{pos}
use Rattle.caa_base.specs.declared.written.entry.Entry.{Entry}
use Rattle.caa_base.specs.declared.written.entry.Kind.TheVariants as kind
use Rattle.place_plan.specs.Plans.Places.{initials_of}
use Rattle.rehearsals.proofs.JournalsCounted.{values_step}
use Rattle.rehearsals.proofs.facts.values_after.Goals as goal

-- what stands past the last entry
abbrev blank : Entry
blank = record { kind = kind.Arrive; place = 0; by = 0; arg = 0; mark = 0; value = pos 0 }

pub loop-entry-preserved : goal.loop-entry-preserved
loop-entry-preserved c =
    values_step (initials_of c.args.plan.now) c.loop-entry.values.items _ c.args.entries.now c.loop-entry.entry-index blank
    c.loop-entry-test.true c.loop-entry.invariant c.note_put.ensures
