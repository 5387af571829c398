-- What a seat's turns tell its owner.
use Rattle.std.specs.Prelude.{◌≡◌, ℕ, Bool, true, false, List, [], ◌∷◌, ◌++◌, reverse, Option, None}
use mathlib.Core.List.{IsPrefix}
use Rattle.atomic_table.specs.Table.{Me}
use Rattle.caa_base.specs.Written.Mixing.{Worked}
use Rattle.caa_base.specs.declared.written.entry.Entry.{Entry}
use Rattle.caa_base.specs.declared.written.entry.Kind.TheVariants as kind
use Rattle.logbook.specs.Pages.{Book}
use Rattle.place_plan.specs.Plans.PlanValue.{Plan}
use Rattle.place_plan.specs.RulesOfJournals.Journals.{IsLegal}
use Rattle.place_plan.specs.RulesOfJournals.Machine.{Answers, Fits}
use Rattle.place_plan.specs.RulesOfJournals.Entries.{is_of}
use Rattle.place_plan.specs.RulesOfJournals.Roles.{register}
use Rattle.place_plan.specs.RulesOfJournals.Rules.{MayFollow}
use Rattle.place_plan.specs.declared.rules.machine.Answer.{Answer}
use Rattle.place_plan.specs.declared.rules.machine.Answer.TheVariants as answer
use Rattle.place_plan.specs.declared.rules.machine.Base.{Base}
use Rattle.action_manager.specs.declared.lock_view.Terms.{Terms}
use Rattle.action_manager.specs.declared.lock_view.View.{View}
use Rattle.action_manager.specs.OwnEntries.{Journal, entries_by}

-- what a machine keeps to: its plan, its base, the cells of its places and its list of publications
abbrev pub terms_of : Plan → Base → List ℕ → Book → Terms
terms_of plan base cells book = record { plan = plan; base = base; cells = cells; book = book }

-- a seat of a participant that has no turn, and has seen these entries
abbrev pub rested : Terms → ℕ → Journal → View
rested terms who j =
    record {
      seated = true;
      making = false;
      terms = terms;
      who = who;
      next = 0;
      holds = false;
      ticket = 0;
      has_book = false;
      book = [];
      seen = j;
      taken = [];
    }

-- a seat at the table is at rest: it has no ticket and no book, holds no slot, and has taken in nobody
abbrev pub IsAtRest : {S : Type 0} → Terms → Me S View → Type 0
IsAtRest {S = S} terms m = ◌≡◌ {A = Me S View} m (rested terms m.0.who m.0.seen, [])

-- the new journal begins with the old one, and no entry of t was added
pub record GrowsWithout (old new : Journal) (t : ℕ) : Type 0 where
  pub begins : IsPrefix old new
  pub alone : entries_by t new ≡ entries_by t old

-- what is seen now ends with e, an entry of t, and between what had been seen and e stands no entry of t; e may come after what
-- stands before it, and is a work only where the hint fits
pub record EndsWithOwn (plan : Plan) (old new : Journal) (t : ℕ) (hint : Option Worked) (e : Entry) : Type 0 where
  pub before : Journal
  pub last : new ≡ before ++ e ∷ []
  pub own : e.by ≡ t
  pub between : GrowsWithout old before t
  pub may : MayFollow plan (reverse before) e
  pub hinted : e.kind ≡ kind.Work → Fits hint e.arg (register plan (reverse before) e.place t)

-- what a step of t answers, with what its seat had seen and has seen: at Did, the entry of t that was added, the only one and the
-- last that is seen now; at every other answer no entry of t was added, and the machine answers this on what is seen now
abbrev pub Steps : Plan → Journal → Journal → ℕ → Option Worked → Answer → Type 0
Steps plan old new t hint (answer.Did e) = EndsWithOwn plan old new t hint e
Steps plan old new t hint other = GrowsWithout old new t × Answers plan new new t hint other

-- the answer is the entry of a work
abbrev pub did_work : Answer → Bool
did_work (answer.Did e) = is_of kind.Work e
did_work _ = false

-- what comes after a first answer in the same turn of t: where a work was entered, the machine's next answer, without further work
-- that is brought; else nothing
abbrev pub AnswersOn : Plan → Journal → Journal → ℕ → Answer → Answer → Bool → Type 0
AnswersOn plan mid new t first answer true = Answers plan mid new t None answer
AnswersOn plan mid new t first answer false = (new ≡ mid) × (answer ≡ first)

-- what a turn of t answers on the journal `old`, and the journal that it leaves: the entry of the work that it brings, if that may
-- come, and then the machine's answer
pub record AnswersTurn (plan : Plan) (old new : Journal) (t : ℕ) (hint : Option Worked) (answer : Answer) : Type 0 where
  pub first : Answer
  pub mid : Journal
  pub answers : Answers plan old mid t hint first
  pub further : AnswersOn plan mid new t first answer (did_work first)

-- what a step of t answers that asks on, with what its seat had seen and has seen: the answer is that of a turn on a journal that
-- begins with what was seen and has no further entry of t, and what is seen now is the journal that the turn left
pub record StepsOn (plan : Plan) (old new : Journal) (t : ℕ) (hint : Option Worked) (answer : Answer) : Type 0 where
  pub before : Journal
  pub grown : GrowsWithout old before t
  pub legal_before : IsLegal plan before
  pub turn : AnswersTurn plan before new t hint answer
  pub legal : IsLegal plan new

-- a turn of t that makes no entry: a legal journal was seen, which begins with what had been seen
pub record Looks (plan : Plan) (old new : Journal) (t : ℕ) : Type 0 where
  pub grown : GrowsWithout old new t
  pub legal : IsLegal plan new
