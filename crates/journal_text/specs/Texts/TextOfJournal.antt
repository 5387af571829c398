-- Which bytes can be read as a journal with what was seen, and which line of others is the first that no text has there.
use Rattle.std.specs.Prelude.{◌≡◌, ◌<◌, ◌≤◌, ◌+◌, ◌==◌, ℕ, suc, if◌then◌else◌, List, [], ◌∷◌, ◌++◌, length, Result, Ok, Err}
use Rattle.std.specs.List.{flat_map}
use Rattle.caa_base.specs.declared.written.entry.Entry.{Entry}
use Rattle.caa_base.specs.Written.Journal.{Entries}
use Rattle.place_plan.specs.Plans.PlanValue.{Plan}
use Rattle.place_plan.specs.RulesOfJournals.WellFormed.{AllWellFormed}
use Rattle.journal_text.specs.declared.looks.seens.Seen.{Seen}
use Rattle.journal_text.specs.declared.texts.text_reader.TextError.{TextError}
use Rattle.journal_text.specs.declared.texts.text_reader.TextError.TheVariants as error
use Rattle.journal_text.specs.Watching.Looks.{Looks, AreInOrder, AreOfPlan}
use Rattle.journal_text.specs.Texts.Text.{first_line, entry_line, text_of}

-- a journal of no more entries than the limit, all well formed, and looks of the plan in order: they have a text
pub record HasText (plan : Plan) (limit : ℕ) (journal : List Entry) (seens : List Seen) : Type 0 where
  pub entries : AllWellFormed plan journal
  pub few : length journal ≤ limit
  pub order : AreInOrder seens
  pub watches : AreOfPlan plan seens

-- the bytes are the text of this journal and these looks
pub record IsText (plan : Plan) (limit : ℕ) (bytes : List ℕ) (journal : List Entry) (seens : List Seen) : Type 0 where
  pub fit : HasText plan limit journal seens
  pub same : bytes ≡ text_of plan journal seens

-- after the first line stand well-formed entry lines, one more than the limit
pub record HasTooMany (plan : Plan) (limit : ℕ) (bytes : List ℕ) : Type 0 where
  pub journal : List Entry
  pub rest : List ℕ
  pub entries : AllWellFormed plan journal
  pub many : length journal ≡ limit + 1
  pub begins : bytes ≡ first_line ++ flat_map (entry_line plan) journal ++ rest

-- how many whole lines two texts have in common before they first differ: the line feeds in their common front
abbrev pub lines_shared : List ℕ → List ℕ → ℕ
lines_shared [] bytes = 0
lines_shared (a ∷ text) [] = 0
lines_shared (a ∷ text) (b ∷ bytes) =
    if a == b then (if a == 10 then suc (lines_shared text bytes) else lines_shared text bytes) else 0

-- the bytes are no text, and this is the number of their first bad line: some text has all lines before it, and none has this one
-- after them
pub record IsFirstBad (plan : Plan) (limit : ℕ) (bytes : List ℕ) (number : ℕ) : Type 0 where
  pub none : (journal : List Entry) (seens : List Seen) → IsText plan limit bytes journal seens → ⊥
  pub few : HasTooMany plan limit bytes → ⊥
  pub journal : List Entry
  pub seens : List Seen
  pub fit : HasText plan limit journal seens
  pub before : suc (lines_shared bytes (text_of plan journal seens)) ≡ number
  pub most :
      (others : List Entry) (more : List Seen) → HasText plan limit others more
      → lines_shared bytes (text_of plan others more) < number

-- why bytes are refused; want of memory may always come
abbrev pub Refuses : Plan → ℕ → List ℕ → TextError → Type 0
Refuses plan limit bytes (error.TooMany line) = (line ≡ limit + 2) × HasTooMany plan limit bytes
Refuses plan limit bytes (error.BadLine line) = IsFirstBad plan limit bytes line
Refuses plan limit bytes error.OutOfMemory = Unit {0}

-- what reading the bytes gives
abbrev pub Reads : Plan → ℕ → List ℕ → Result (Entries × Looks) TextError → Type 0
Reads plan limit bytes (Ok r) = IsText plan limit bytes r.0.entries r.1.seens
Reads plan limit bytes (Err e) = Refuses plan limit bytes e

-- this journal and these looks were read, or no memory was found
abbrev pub GivesBack : List Entry → List Seen → Result (Entries × Looks) TextError → Type 0
GivesBack journal seens (Ok r) = (r.0.entries ≡ journal) × (r.1.seens ≡ seens)
GivesBack journal seens (Err e) = e ≡ error.OutOfMemory

-- what is read is what was written, or no memory was found
abbrev pub ReadsBack : Plan → ℕ → List ℕ → Result (Entries × Looks) TextError → Type 0
ReadsBack plan limit bytes result =
    (journal : List Entry) (seens : List Seen) → IsText plan limit bytes journal seens → GivesBack journal seens result

-- two texts that are the same are of one journal and the same looks
abbrev pub TextsDiffer : Plan → Type 0
TextsDiffer plan =
    (limit : ℕ) (journal others : List Entry) (seens more : List Seen)
    → HasText plan limit journal seens → HasText plan limit others more
    → text_of plan journal seens ≡ text_of plan others more
    → (journal ≡ others) × (seens ≡ more)
