-- What each step of reading a text finds.
use Rattle.std.specs.Prelude.{◌≡◌, ◌≤◌, ◌+◌, ℕ, suc, List, ◌++◌, length, Option, Some, None, MatchOption}
use Rattle.std.specs.List.{flat_map}
use Rattle.caa_base.specs.declared.written.entry.Entry.{Entry}
use Rattle.place_plan.specs.Plans.PlanValue.{Plan}
use Rattle.place_plan.specs.RulesOfJournals.WellFormed.{IsWellFormed, AllWellFormed}
use Rattle.journal_text.specs.declared.looks.seens.Seen.{Seen}
use Rattle.journal_text.specs.declared.texts.text_reader.TextError.{TextError}
use Rattle.journal_text.specs.declared.texts.text_reader.TextError.TheVariants as error
use Rattle.journal_text.specs.Watching.Looks.{IsOfPlan, AreOfPlan, AreInOrder, last_watch}
use Rattle.journal_text.specs.Texts.Text.{entry_line, seen_line}
use Rattle.journal_text.specs.Texts.TextOfJournal.{lines_shared}

-- what a text is left as after this front, where it begins with that
abbrev pub IsAfter : {R : Type 0} → (R → List ℕ) → List ℕ → List ℕ → Option R → Type 0
IsAfter now front text after = MatchOption after ((rest : List ℕ) → text ≡ front ++ rest → ⊥) (λ rest. text ≡ front ++ now rest)

-- the text doesn't begin with the line of a well-formed entry
abbrev pub BeginsNoEntry : Plan → List ℕ → Type 0
BeginsNoEntry plan text = (e : Entry) (rest : List ℕ) → IsWellFormed plan e → text ≡ entry_line plan e ++ rest → ⊥

-- a look that may come where this is the least watch
abbrev pub MayCome : Plan → ℕ → Seen → Type 0
MayCome plan low s = (low ≤ s.watch) × IsOfPlan plan s

-- the text doesn't begin with the line of such a look
abbrev pub BeginsNoSeen : Plan → ℕ → List ℕ → Type 0
BeginsNoSeen plan low text = (s : Seen) (rest : List ℕ) → MayCome plan low s → text ≡ seen_line plan s ++ rest → ⊥

-- the entry that a text begins with, and the rest of the text
abbrev pub EntryFound : Plan → List ℕ → Option (Entry × List ℕ) → Type 0
EntryFound plan text None = BeginsNoEntry plan text
EntryFound plan text (Some r) = IsWellFormed plan r.0 × (text ≡ entry_line plan r.0 ++ r.1)

-- the look that a text begins with, which may come where this is the least watch, and the rest of the text
abbrev pub SeenFound : Plan → ℕ → List ℕ → Option (Seen × List ℕ) → Type 0
SeenFound plan low text None = BeginsNoSeen plan low text
SeenFound plan low text (Some r) = MayCome plan low r.0 × (text ≡ seen_line plan r.0 ++ r.1)

-- all entries that a text begins with, which are at most so many, and the rest of the text
pub record EntriesRead (plan : Plan) (limit : ℕ) (text : List ℕ) (entries : List Entry) (rest : List ℕ) : Type 0 where
  pub fit : AllWellFormed plan entries
  pub few : length entries ≤ limit
  pub front : text ≡ flat_map (entry_line plan) entries ++ rest
  pub all : BeginsNoEntry plan rest

-- a text that begins with one entry more
pub record EntriesPast (plan : Plan) (limit : ℕ) (text : List ℕ) : Type 0 where
  pub entries : List Entry
  pub rest : List ℕ
  pub fit : AllWellFormed plan entries
  pub many : length entries ≡ limit + 1
  pub front : text ≡ flat_map (entry_line plan) entries ++ rest

-- all looks that a text begins with, in order, and the rest of the text
pub record SeensRead (plan : Plan) (text : List ℕ) (seens : List Seen) (rest : List ℕ) : Type 0 where
  pub order : AreInOrder seens
  pub fit : AreOfPlan plan seens
  pub front : text ≡ flat_map (seen_line plan) seens ++ rest
  pub all : BeginsNoSeen plan (last_watch 0 seens) rest

-- why entries weren't read to their end
abbrev pub StopsEntries : Plan → ℕ → List ℕ → TextError → Type 0
StopsEntries plan limit text (error.TooMany line) = (line ≡ limit + 2) × EntriesPast plan limit text
StopsEntries plan limit text (error.BadLine line) = ⊥
StopsEntries plan limit text error.OutOfMemory = Unit {0}

-- the refusal of the first line that the bytes don't share with this text, or want of memory
abbrev pub RefusesAfter : List ℕ → List ℕ → TextError → Type 0
RefusesAfter bytes text (error.TooMany line) = ⊥
RefusesAfter bytes text (error.BadLine line) = line ≡ suc (lines_shared bytes text)
RefusesAfter bytes text error.OutOfMemory = Unit {0}
