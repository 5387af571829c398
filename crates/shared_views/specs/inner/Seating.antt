-- The writer and the readers of the board, as their owners keep them.
use Rattle.std.specs.Prelude.{◌≡◌, ℕ, [], false, length, drop, Option, Some, None, is_some, IfSome}
use Rattle.std.specs.Option.{option_map}
use Rattle.shared_views.specs.declared.board.View.{View}
use Rattle.logbook.specs.Pages.{Book}
use Rattle.left_right.specs.Sides.{view}
use Rattle.shared_views.specs.Publications.{Known}
use Rattle.shared_views.specs.inner.Boards.{IsRight}
use Rattle.shared_views.specs.Committing.{Committed, Watching}
use Rattle.shared_views.specs.declared.committed_writer.CommittedWriter.TheInside.{Inside as WriterInside}
use Rattle.shared_views.specs.declared.observer.Observer.TheInside.{Inside as ObserverInside}

-- what contracts see of a writer
abbrev pub committed : WriterInside → Committed
committed w =
    record {
      initials = w.initials.items;
      publications = w.writer.desk.shown.value.publications;
      is_stale = is_some w.refused;
      entered = w.head;
    }

-- the board that is shown is right, and has a place for each object; the head adds to the list of its publications. Unless the view
-- is stale nothing waits to be shown, and these are all that was entered
pub record IsInOrder (w : WriterInside) : Type 0 where
  pub right : IsRight w.writer.desk.shown.value
  pub wide : length w.writer.desk.shown.value.given.items ≡ length w.initials.items
  pub book : w.head.book ≡ w.writer.desk.shown.value.publications.book
  pub idle : is_some w.refused ≡ false → drop w.writer.behind w.writer.log.items ≡ []
  pub whole : is_some w.refused ≡ false → w.head ≡ w.writer.desk.shown.value.publications

-- how often was looked at the board
abbrev pub looks_of : Option View → ℕ
looks_of None = 0
looks_of (Some v) = v.looks

-- what the board showed at the last look
abbrev pub shown_of : Option View → Option Known
shown_of None = None
shown_of (Some v) = v.known

-- what contracts see of an observer
abbrev pub watching_view : ObserverInside → Watching
watching_view o = record {
  initials = o.initials.items;
  known = o.known;
  is_placed = is_some o.reader;
  looks = looks_of (option_map (λ r. view r.place) o.reader);
  shown = shown_of (option_map (λ r. view r.place) o.reader);
}

-- what is known is of this book
abbrev pub IsOfBook : Book → Option Known → Type 0
IsOfBook b None = ⊥
IsOfBook b (Some k) = k.book ≡ b

-- a reader, where there is one, reads the board of the list that the observer knows of
abbrev pub IsPlaced : ObserverInside → Type 0
IsPlaced o = IfSome o.reader (λ r. IsOfBook o.known.book (view r.place).known)
