-- The looks of all watches, once all that was committed is published.
use Rattle.std.specs.Prelude.{◌≡◌, ◌<◌, ◌≤◌, ◌*◌, ℕ, nat_lt, List, [], ◌∷◌, ◌++◌, filter, length, suc, Option, Some, None}
use Rattle.std.specs.List.{All}
use Rattle.caa_base.specs.declared.written.entry.Entry.{Entry}
use Rattle.place_plan.specs.Plans.PlanValue.{Plan}
use Rattle.place_plan.specs.Plans.Places.{initials_of}
use Rattle.place_plan.specs.RulesOfJournals.Journals.{LegalPast, AllOver}
use Rattle.journal_text.specs.declared.looks.seens.Seen.{Seen}
use Rattle.journal_text.specs.Watching.Looks.{last_watch}
use Rattle.journal_text.specs.Watching.Right.{first_wrong_from}
use Rattle.shared_views.specs.Committing.{Committed}
use Rattle.shared_views.specs.declared.observed.Reading.{Reading}
use Rattle.action_manager.specs.Publishing.{publications_of}
use Rattle.role_driver.specs.inner.Watchers.{Task}

-- the writer has published all that the plays of this complete past committed
pub record HasPublished (plan : Plan) (past : List Entry) (w : Committed) : Type 0 where
  pub legal : LegalPast plan past
  pub over : AllOver plan past
  pub initials : w.initials ≡ initials_of plan
  pub all : w.publications.list ≡ publications_of plan past

-- to watch an object by what the writer publishes
abbrev pub task_by : Committed → ℕ → Task
task_by w o = record { object = o; initials = w.initials; book = w.publications.book }

-- the readings before the last, and the last
abbrev pub with_last : List Reading → Reading → List Reading
with_last seen last = filter (λ r. nat_lt r.ends last.ends) seen ++ last ∷ []

-- a reading, as a look of this watch
abbrev pub look_of : ℕ → Reading → Seen
look_of w r = record { watch = w; ends = r.ends; value = r.value }

-- the next look is the first of all, or this one was of the watch before
abbrev pub IsBefore : ℕ → Option Seen → Type 0
IsBefore w None = w ≡ 0
IsBefore w (Some s) = suc s.watch ≡ w

-- these are the looks of the first w watches, and right whatever looks of the others come after them
pub record AreRightSoFar (plan : Plan) (past : List Entry) (w : ℕ) (seens : List Seen) : Type 0 where
  pub last : Option Seen
  pub before : IsBefore w last
  pub right :
      (more : List Seen)
      → first_wrong_from plan past None (seens ++ more) 0 ≡ first_wrong_from plan past last more (length seens)
  pub few : length seens ≤ w * suc (length plan.plays)
  pub order : last_watch 0 seens ≤ w
  pub of_plan : All (λ s. s.watch < w) seens
