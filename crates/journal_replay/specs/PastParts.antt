-- What clauses name of a past.
use Rattle.std.specs.Prelude.{List, reverse}
use Rattle.caa_base.specs.declared.written.entry.Entry.{Entry}
use Rattle.place_plan.specs.Plans.PlanValue.{Plan}
use Rattle.journal_replay.specs.declared.past.StandsFor.{Ghosts as OfRecords}
use Rattle.journal_replay.specs.declared.past.Past.{Past}

-- the plan that is played
abbrev pub plan_of : {R : Type 0} {kept : OfRecords R} → Past R kept → Plan
plan_of past = past.plan.now

-- the entries so far, the newest first
abbrev pub entries_of : {R : Type 0} {kept : OfRecords R} → Past R kept → List Entry
entries_of past = reverse past.journal.now
