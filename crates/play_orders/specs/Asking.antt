-- Who is asked for the next entry, and what comes of it.
use Rattle.std.specs.Prelude.{◌≡◌, ℕ, ◌<◌, true, false, List, [], ◌∷◌, ◌++◌, reverse}
use Rattle.cover_table.specs.Cover.{has_bit}
use Rattle.caa_base.specs.declared.written.entry.Entry.{Entry}
use Rattle.place_plan.specs.Plans.PlanValue.{Plan}
use Rattle.place_plan.specs.RulesOfJournals.Rules.{MayFollow}
use Rattle.place_plan.specs.RulesOfJournals.Journals.{HasNoEntry}
use Rattle.journal_laws.specs.Laws.{wakes}

-- of so many participants, one at least doesn't sleep
abbrev pub NotAllSleep : ℕ → ℕ → Type 0
NotAllSleep crew participants = ((t : ℕ) → t < participants → has_bit crew t ≡ true) → ⊥

-- none of this crew has an entry after the journal
abbrev pub AllSleep : Plan → List Entry → ℕ → Type 0
AllSleep plan journal crew = (t : ℕ) → has_bit crew t ≡ true → HasNoEntry plan (reverse journal) t

-- t made this entry of its own
pub record Acts (plan : Plan) (old new : List Entry) (t : ℕ) (entry : Entry) : Type 0 where
  pub added : new ≡ old ++ entry ∷ []
  pub own : entry.by ≡ t
  pub may : MayFollow plan (reverse old) entry

-- t has no entry, and none was made
pub record IsKept (plan : Plan) (old new : List Entry) (t : ℕ) : Type 0 where
  pub same : new ≡ old
  pub silent : HasNoEntry plan (reverse old) t

-- one entry was made, which may follow
pub record WasAdded (plan : Plan) (old new : List Entry) : Type 0 where
  pub entry : Entry
  pub added : new ≡ old ++ entry ∷ []
  pub may : MayFollow plan (reverse old) entry

-- the entry wakes t by no plan, whatever came before
abbrev pub WakesNobody : Entry → ℕ → Type 0
WakesNobody e t = (plan : Plan) (past : List Entry) → wakes plan past e t ≡ false
