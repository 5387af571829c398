-- Journals from which turns may begin.
use Rattle.std.specs.Prelude.{◌≡◌, ℕ, List, None}
use Rattle.caa_base.specs.declared.written.entry.Entry.{Entry}
use Rattle.place_plan.specs.RulesOfJournals.Raising.{exception_resolved}

-- no place is resolved in this past
abbrev pub IsUnresolved : List Entry → Type 0
IsUnresolved past = (p : ℕ) → exception_resolved past p ≡ None
