-- A log that is live: what its sink had taken whenever the device was asked for a put.
use Rattle.std.specs.Prelude.{◌≡◌, ◌⊎◌, ℕ, Bool, true, false, List, [], ◌∷◌, ◌++◌, Option}
use Rattle.std.specs.Io.KnownBytes.{append_known}
use Rattle.caa_base.specs.Outside.Counts.{counted_up}
use Rattle.caa_base.specs.Outside.Writing.{WrotePart}
use Rattle.caa_base.specs.declared.outside.plant.Asked.{Asked}
use Rattle.caa_base.specs.declared.outside.plant.Asked.TheVariants as asked
use Rattle.caa_base.specs.declared.outside.sink.Sink.{Ghosts as SinkGhosts}
use Rattle.caa_base.specs.declared.written.entry.Entry.{Entry}
use Rattle.place_plan.specs.Plans.PlanValue.{Plan}
use Rattle.journal_text.specs.Texts.Text.{entries_text}

-- what a sink held, where it tells that, and how many of its writes had failed, as a log was begun in it
pub record Opening : Type 0 where
  pub held : Option (List ℕ)
  pub faults : ℕ

-- a log is begun in this sink
abbrev pub opening_of : {K : Type 0} → SinkGhosts K → K → Opening
opening_of sinks sink = record { held = sinks.held sink; faults = sinks.faults sink }

-- since then the sink took all of these bytes and no others, and no write failed
pub record TookAll {K : Type 0} (sinks : SinkGhosts K) (opening : Opening) (sink : K) (bytes : List ℕ) : Type 0 where
  pub written : sinks.held sink ≡ append_known opening.held bytes
  pub unfailed : sinks.faults sink ≡ opening.faults

-- since then one write failed, and of these bytes the sink took a front and not all, and no others
pub record TookFront {K : Type 0} (sinks : SinkGhosts K) (opening : Opening) (sink : K) (bytes : List ℕ) : Type 0 where
  pub part : WrotePart opening.held (sinks.held sink) bytes
  pub cause : sinks.faults sink ≡ counted_up opening.faults

-- the one or the other
abbrev pub HasTaken : {K : Type 0} → SinkGhosts K → Opening → K → List ℕ → Type 0
HasTaken sinks opening sink bytes = TookAll sinks opening sink bytes ⊎ TookFront sinks opening sink bytes

-- one thing that came to a device with a log: what the device was asked for or told of, and the sink of the log as it was when that came
pub record Moment (K : Type 0) : Type 0 where
  pub came : Asked
  pub sink : K

-- a course in which this came too, with the sink of the log like that
abbrev pub after_moment : {K : Type 0} → List (Moment K) → Asked → K → List (Moment K)
after_moment course came sink = course ++ record { came = came; sink = sink } ∷ []

-- the device was asked for a put or a restore
abbrev pub is_put : Asked → Bool
is_put (asked.Laid values drills puts done) = false
is_put (asked.Put object value back done) = true
is_put (asked.Entered e) = false

-- the entries that a device was told of: these, and the one that came now, if one did
abbrev pub with_entry : List Entry → Asked → List Entry
with_entry entries (asked.Laid values drills puts done) = entries
with_entry entries (asked.Put object value back done) = entries
with_entry entries (asked.Entered e) = entries ++ e ∷ []

-- these, and those that came in a course
abbrev pub entries_with : {K : Type 0} → List Entry → List (Moment K) → List Entry
entries_with entries [] = entries
entries_with entries (m ∷ later) = entries_with (with_entry entries m.came) later

-- a log is live in this course, before which the device was told of these entries: each time that the device was asked for a put, the
-- sink had taken the text of all entries that the device had been told of till then, and nothing else; or a write had failed
abbrev pub IsLive : {K : Type 0} → SinkGhosts K → Plan → Opening → List Entry → List (Moment K) → Type 0
IsLive sinks plan opening entries [] = Unit {0}
IsLive sinks plan opening entries (m ∷ later) =
    (is_put m.came ≡ true → HasTaken sinks opening m.sink (entries_text plan entries))
    × IsLive sinks plan opening (with_entry entries m.came) later
