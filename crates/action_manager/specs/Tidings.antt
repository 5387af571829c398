-- What a step tells its seat.
use Rattle.std.specs.Prelude.{◌≡◌, ℕ, List, Result, Ok, Err}
use Rattle.place_plan.specs.declared.rules.machine.Answer.{Answer}
use Rattle.place_plan.specs.declared.rules.machine.Answer.TheVariants as answer
use Rattle.shared_views.specs.Noted.{Noted}
use Rattle.shared_views.specs.Telling.{TellsOf}
use Rattle.shared_views.specs.declared.bulletin.Announcement.{Announcement}
use Rattle.shared_views.specs.declared.bulletin.Announcement.TheVariants as told
use Rattle.action_manager.specs.declared.seat.NoNote.{NoNote}
use Rattle.action_manager.specs.declared.seat.NoNote.TheVariants as no_note

-- after a Resolve or a Handle it is a note of that place, in which the exception of the entry is known, or the place's refusal;
-- else nothing
abbrev pub TellsAfter : List ℕ → Answer → Announcement → Type 0
TellsAfter cells (answer.Did e) t = TellsOf e.kind cells e t
TellsAfter cells (answer.Work p rounds from) t = t ≡ told.Nothing
TellsAfter cells answer.NotYet t = t ≡ told.Nothing
TellsAfter cells answer.Over t = t ≡ told.Nothing

-- what is taken out of a seat
abbrev pub Takes : Announcement → Result Noted NoNote → Type 0
Takes told.Nothing taken = taken ≡ Err no_note.NotDue
Takes (told.Noted note) taken = taken ≡ Ok note
Takes (told.Refused refused) taken = taken ≡ Err (no_note.Refused refused)
