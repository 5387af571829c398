-- The right to add to a list of publications, as its owner keeps it.
use Rattle.std.specs.Prelude.{◌≡◌, ◌+◌, length, Some}
use Rattle.logbook.specs.Pages.{may_write}
use Rattle.shared_views.specs.inner.Chronicles.{head_of, heir}
use Rattle.shared_views.specs.declared.publications.Head.TheInside.{Inside}

-- the pen is that of the cell which adds what follows the entries that were reached; so these are all that there are
pub record IsAtEnd (h : Inside) : Type 0 where
  pub counted : length h.reached.log ≡ h.ends + 1
  pub word : h.word ≡ head_of h.reached.book
  pub book : h.pen.book ≡ h.reached.book
  pub right : h.pen.nib.right ≡ may_write
  pub last : heir h.reached.log ≡ Some h.pen.nib.key
