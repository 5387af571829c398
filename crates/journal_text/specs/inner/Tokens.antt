-- What reading one token of a text finds, and what reading the rest of a line finds.
use Rattle.std.specs.Prelude.{◌≡◌, ◌<◌, ◌≤◌, ◌^◌, ℕ, ◌==◌, Bool, true, not, ◌||◌, List, [], ◌∷◌, ◌++◌, length, take, drop, decimal, get_or, Option, Some, None}
use Rattle.std.specs.List.{list_all}
use Rattle.std.specs.Str.Parse.{AllDigits, digits_value}
use Rattle.caa_base.specs.Written.Lines.{spaced}
use Rattle.caa_base.specs.declared.written.entry.Entry.{Entry}
use Rattle.caa_base.specs.declared.written.entry.Kind.{Kind}
use Rattle.caa_base.specs.declared.written.entry.Verdict.{Verdict}
use Rattle.caa_base.specs.declared.written.entry.Verdict.TheVariants as verdict
use Rattle.caa_base.specs.declared.written.entry.Outcome.{Outcome}
use Rattle.caa_base.specs.declared.written.entry.Outcome.TheVariants as outcome
use Rattle.place_plan.specs.Plans.PlanValue.{Plan}
use Rattle.place_plan.specs.Plans.Places.{graph_at, exception_name}
use Rattle.journal_text.specs.Texts.Text.{kind_word, participant_name, object_name}
use Rattle.journal_text.specs.Texts.Naming.{index_among}

-- ---- words

-- a space or a line feed
abbrev pub is_gap : ℕ → Bool
is_gap b = (b == 32) || (b == 10)

-- no gap stands in the word
abbrev pub is_whole : List ℕ → Bool
is_whole word = list_all (λ b. not (is_gap b)) word

-- a gap stands first
abbrev pub BeginsWithGap : List ℕ → Type 0
BeginsWithGap [] = ⊥
BeginsWithGap (b ∷ text) = is_gap b ≡ true

-- what a text is left as after this word, where it begins with that word, up to a gap
abbrev pub IsAfterWord : {R : Type 0} → (R → List ℕ) → List ℕ → List ℕ → Option R → Type 0
IsAfterWord now word text None = (rest : List ℕ) → BeginsWithGap rest → text ≡ word ++ rest → ⊥
IsAfterWord now word text (Some r) = BeginsWithGap (now r) × (text ≡ word ++ now r)

-- the whole word that stands after a space, up to a gap, and what the text is left as from that gap on
abbrev pub WordRead : {R : Type 0} → (R → List ℕ) → List ℕ → Option (R × R) → Type 0
WordRead now text None = (word rest : List ℕ) → is_whole word ≡ true → BeginsWithGap rest → text ≡ 32 ∷ word ++ rest → ⊥
WordRead now text (Some r) = (is_whole (now r.0) ≡ true) × BeginsWithGap (now r.1) × (text ≡ 32 ∷ now r.0 ++ now r.1)

-- ---- tokens

-- a value whose spelling the text begins with, up to a gap, and what the text is left as from that gap on; or nothing, where no such
-- value is spelled there
abbrev pub TokenRead : {A R : Type 0} → (R → List ℕ) → (A → Type 0) → (A → List ℕ) → List ℕ → Option (A × R) → Type 0
TokenRead {A = A} now Fits spelled text None = (a : A) (rest : List ℕ) → Fits a → BeginsWithGap rest → text ≡ spelled a ++ rest → ⊥
TokenRead {A = A} now Fits spelled text (Some r) = Fits r.0 × BeginsWithGap (now r.1) × (text ≡ spelled r.0 ++ now r.1)

-- a value whose words stand in the text up to the end of its line, each after a space, and what the text is left as after that line; or
-- nothing, where the words of no such value stand there
abbrev pub LineRead : {A R : Type 0} → (R → List ℕ) → (A → Type 0) → (A → List (List ℕ)) → List ℕ → Option (A × R) → Type 0
LineRead {A = A} now Fits words text None = (a : A) (rest : List ℕ) → Fits a → text ≡ spaced (words a) ++ 10 ∷ rest → ⊥
LineRead {A = A} now Fits words text (Some r) = Fits r.0 × (text ≡ spaced (words r.0) ++ 10 ∷ now r.1)

-- ---- numbers

-- the digits with which a text begins, up to a gap: so many, which make this number
pub record AreDigits (text : List ℕ) (number end : ℕ) : Type 0 where
  pub inside : end ≤ length text
  pub digits : AllDigits 10 (take end text)
  pub value : number ≡ digits_value 10 (take end text)
  pub gap : BeginsWithGap (drop end text)

-- the number that the digits up to the first gap make, zeros in front or not, and how many they are; or nothing, where no number within
-- 64 bits is spelled there
abbrev pub DigitsRead : List ℕ → Option (ℕ × ℕ) → Type 0
DigitsRead text None = (n : ℕ) (rest : List ℕ) → n < 2 ^ 64 → BeginsWithGap rest → text ≡ decimal n ++ rest → ⊥
DigitsRead text (Some r) = AreDigits text r.0 r.1

-- ---- names

-- the participant with this name
abbrev pub participant_in : Plan → List ℕ → ℕ
participant_in plan word = index_among (participant_name plan) word 0 (length plan.participants)

-- the object with this name
abbrev pub object_in : Plan → List ℕ → ℕ
object_in plan word = index_among (object_name plan) word 0 (length plan.objects)

-- an exception of a graph
abbrev pub exception_in : Plan → ℕ → List ℕ → ℕ
exception_in plan g word = index_among (exception_name plan g) word 0 (graph_at plan g).count

-- ---- kinds

-- the first byte of a kind's word
abbrev pub first_byte : Kind → ℕ
first_byte k = get_or (kind_word k) 0 0

-- ---- entries

-- an entry of the same kind, place and participant
pub record IsOf (maker e : Entry) : Type 0 where
  pub kind : e.kind ≡ maker.kind
  pub place : e.place ≡ maker.place
  pub by : e.by ≡ maker.by

-- a verdict that signals, if it does, one of so many exceptions
abbrev pub VerdictFits : ℕ → Verdict → Type 0
VerdictFits count (verdict.Signal x) = x < count
VerdictFits count verdict.Done = Unit {0}
VerdictFits count verdict.Undo = Unit {0}

-- an outcome that signals, if it does, one of so many exceptions
abbrev pub OutcomeFits : ℕ → Outcome → Type 0
OutcomeFits count (outcome.Signal x) = x < count
OutcomeFits count outcome.Commit = Unit {0}
OutcomeFits count outcome.Undone = Unit {0}
OutcomeFits count outcome.Aborted = Unit {0}
OutcomeFits count outcome.Failed = Unit {0}
