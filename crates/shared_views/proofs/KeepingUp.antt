-- A bulletin goes on fitting the journal, entry by entry.
use Rattle.std.proofs.Common.{◌≡◌, ℕ, ◌<◌, false, List, length, get_or, set, Some, ap, ◌∙◌, subst, arith, get_or-set_same}
use Rattle.caa_base.specs.declared.written.entry.Entry.{Entry}
use Rattle.place_plan.specs.RulesOfJournals.Raising.{exception_resolved}
use Rattle.shared_views.specs.declared.bulletin.Bulletin.{Bulletin}
use Rattle.shared_views.specs.declared.bulletin.Announcement.{Announcement}
use Rattle.shared_views.specs.declared.bulletin.Announcement.TheVariants as told
use Rattle.shared_views.specs.Telling.{cells_of, IsTold, Tells, told_at, KeepsUp}

-- of a place that is resolved it was told
pub told_there : (past : List Entry) (b : Bulletin) (p x : ℕ) → KeepsUp past b → p < length (cells_of b)
    → exception_resolved past p ≡ Some x → IsTold (cells_of b) p x (told_at b p)
told_there past b p x k low is = subst (λ r. Tells (cells_of b) p (get_or b.announcer p false) r (told_at b p)) is (k.each p low)

-- the word on a place that was just written
pub told_now : (b b' : Bulletin) (p : ℕ) (t : Announcement) → length b.told.items ≡ length (cells_of b)
    → p < length (cells_of b) → b'.told.items ≡ set b.told.items p t → told_at b' p ≡ t
told_now b b' p t long low is =
    ap (λ l. get_or l p told.Nothing) is ∙ get_or-set_same b.told.items p t told.Nothing (omega (arith, long, low))
