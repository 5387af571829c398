-- Watchers, and the threads that they look in.
use Rattle.std.specs.Prelude.{ℕ, ℤ, List, Result, Ok, Err, IfNone, MatchOption}
use Rattle.logbook.specs.Pages.{Book}
use Rattle.shared_views.specs.Publications.{Begins}
use Rattle.role_driver.specs.declared.watcher.Watcher.{Watcher}

-- what a watcher is to watch: an object, by its initial values and by one list of publications
pub record Task : Type 0 where
  pub object : ℕ
  pub initials : List ℤ
  pub book : Book

-- the task of a watcher
abbrev pub task_of : Watcher → Task
task_of w = record { object = w.object; initials = w.observer.initials; book = w.observer.known.book }

-- the task of a watcher that has a thread, or of one that was handed back
abbrev pub task_at : {H : Type 0} → (H → Watcher) → Result H Watcher → Task
task_at watcher_of (Ok thread) = task_of (watcher_of thread)
task_at watcher_of (Err watcher) = task_of watcher

-- the last look of the watcher was refused, or it knows what the board of committed values showed then
abbrev pub HasLooked : Watcher → Type 0
HasLooked w = IfNone w.refused (MatchOption w.observer.shown ⊥ (λ k. Begins k w.observer.known))
