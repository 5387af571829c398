-- Who needn't be asked.
use Rattle.std.specs.Prelude.{◌≡◌, ℕ, true, List, reverse}
use Rattle.cover_table.specs.Cover.{has_bit}
use Rattle.caa_base.specs.declared.written.entry.Entry.{Entry}
use Rattle.place_plan.specs.Plans.PlanValue.{Plan}
use Rattle.place_plan.specs.RulesOfJournals.Journals.{HasNoEntry}

-- none of this crew has an entry after the journal
abbrev pub AllSleep : Plan → List Entry → ℕ → Type 0
AllSleep plan journal crew = (t : ℕ) → has_bit crew t ≡ true → HasNoEntry plan (reverse journal) t
