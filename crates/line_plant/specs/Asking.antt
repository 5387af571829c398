-- What a note says that came to a device.
use Rattle.caa_base.specs.declared.outside.plant.Asked.{Asked}
use Rattle.caa_base.specs.declared.outside.plant.Asked.TheVariants as asked
use Rattle.line_plant.specs.declared.told.Note.{Note}
use Rattle.line_plant.specs.declared.told.Note.TheVariants as note

-- what is noted, as the history of a device has it
abbrev pub asked_by : Note → Asked
asked_by (note.Laid values drills puts done) = asked.Laid values.now drills.now puts done
asked_by (note.Put object value back done) = asked.Put object value back done
asked_by (note.Entered entry) = asked.Entered entry.now
