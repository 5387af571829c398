-- What is noted of one thing that came to a device with a log.
use Rattle.caa_base.specs.declared.outside.plant.Asked.{Asked}
use Rattle.caa_base.specs.declared.outside.plant.Asked.TheVariants as asked
use Rattle.entry_log.specs.declared.course.Note.{Note}
use Rattle.entry_log.specs.declared.course.Note.TheVariants as note
use Rattle.entry_log.specs.declared.course.Notice.{Notice}
use Rattle.entry_log.specs.Live.{Moment}

-- what is noted, as the history of a device has it
abbrev pub asked_by : Note → Asked
asked_by (note.Laid values drills puts done) = asked.Laid values.now drills.now puts done
asked_by (note.Put object value back done) = asked.Put object value back done
asked_by (note.Entered entry) = asked.Entered entry.now

-- and the sink of its log
abbrev pub moment_by : {K : Type 0} → Notice K → Moment K
moment_by notice = record { came = asked_by notice.note; sink = notice.sink.now }
