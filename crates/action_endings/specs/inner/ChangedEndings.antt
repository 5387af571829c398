-- What the calls change of what is kept, the entries that do as much, and the outcome by what is kept.
use Rattle.std.specs.Prelude.{◌≡◌, ℕ, ◌==◌, ◌-◌, ◌<◌, Bool, true, false, not, ◌&&◌, ◌||◌, if◌then◌else◌, List, [], ◌∷◌, ◌++◌, Option, Some, None, MatchBool, length, slice_get, slice_set}
use Rattle.std.specs.List.{list_all, All}
use Rattle.cover_table.specs.Cover.{CoverOrder, has_bit}
use Rattle.core_words.specs.Joining.{IsCoverOf}
use Rattle.caa_base.specs.Written.Lists.{member}
use Rattle.caa_base.specs.Written.Marks.{outcome_mark}
use Rattle.caa_base.specs.declared.written.entry.Entry.{Entry}
use Rattle.caa_base.specs.declared.written.entry.Kind.TheVariants as kind
use Rattle.caa_base.specs.declared.written.entry.Outcome.{Outcome}
use Rattle.caa_base.specs.declared.written.entry.Outcome.TheVariants as outcome
use Rattle.caa_base.specs.declared.written.entry.Verdict.{Verdict}
use Rattle.place_plan.specs.Plans.PlanValue.{Plan}
use Rattle.place_plan.specs.Plans.Places.{roles_of, objects_of, interface_of}
use Rattle.place_plan.specs.RulesOfJournals.Entries.{is_of}
use Rattle.place_plan.specs.RulesOfJournals.Whereabouts.{is_undoing}
use Rattle.place_plan.specs.RulesOfJournals.Raising.{is_raised}
use Rattle.place_plan.specs.RulesOfJournals.Roles.{has_given, verdict_of, verdict_at, is_undo, signal_in, signals}
use Rattle.place_plan.specs.RulesOfJournals.Rules.{undone_mark, SignalsLeast}
use Rattle.action_endings.specs.declared.said.Said.{Said}
use Rattle.action_endings.specs.declared.ending.Ending.{Ending}
use Rattle.action_endings.specs.inner.KeptEndings.{at, verdict_said, verdict_kept, tried_kept, exception_named}

-- ---- changes of one place

-- what is kept of p changes like this, and of no other place
pub record ChangesAt (Change : Ending → Ending → Type 0) (p : ℕ) (old new : List Ending) : Type 0 where
  pub as_many : length new ≡ length old
  pub here : Change (at old p) (at new p)
  pub apart : (q : ℕ) → (p == q) ≡ false → at new q ≡ at old q

-- t has given the verdict v, which is kept under the number r of its role, and nothing else changes
pub record Gives (r t : ℕ) (v : Verdict) (old new : Ending) : Type 0 where
  pub given : (s : ℕ) → has_bit new.given s ≡ ((t == s) || has_bit old.given s)
  pub short : Said
  pub says : verdict_said short ≡ v
  pub rest : new ≡ record old { given = new.given; said = slice_set old.said r short; undo = old.undo || is_undo (Some v) }

-- t has given up, what it named is kept under the number r of its role, and nothing else changes
pub record GivesUp (r t : ℕ) (name : Option ℕ) (old new : Ending) : Type 0 where
  pub aborted : (s : ℕ) → has_bit new.aborted s ≡ ((t == s) || has_bit old.aborted s)
  pub rest : new ≡ record old { aborted = new.aborted; named = slice_set old.named r name }

-- something was raised in the place
abbrev pub marked : Ending → Ending
marked ending = record ending { raised = true }

-- no verdict counts there
abbrev pub cleared : Ending → Ending
cleared ending = record ending { given = 0; undo = false }

-- it is being undone
abbrev pub turned_back : Ending → Ending
turned_back ending = record ending { undoing = true }

-- one object more has a restore, well or failed
abbrev pub tried_once_more : Bool → Ending → Ending
tried_once_more well ending = record ending { untried = ending.untried - 1; failed = ending.failed || not well }

-- t may say something in p: it has a role there
pub record MaySay (plan : Plan) (endings : List Ending) (p t : ℕ) : Type 0 where
  pub there : p < length endings
  pub known : t < length plan.participants
  pub role : member t (roles_of plan p) ≡ true

-- ---- entries

-- the entry is none of those that say, undo or restore something
abbrev pub is_apart : Entry → Bool
is_apart e = not (is_of kind.Verdict e) && (not (is_of kind.Abort e) && (not (is_of kind.Undo e) && not (is_of kind.Restore e)))

-- by the entry something is raised in p for the first time, so no verdict counts there any more
pub record RaisesFirst (plan : Plan) (past : List Entry) (e : Entry) (p : ℕ) : Type 0 where
  pub apart : is_apart e ≡ true
  pub raises : (q : ℕ) → is_raised plan (e ∷ past) q ≡ ((p == q) || is_raised plan past q)
  pub counts : (q t : ℕ) → (p == q) ≡ false → has_given plan (e ∷ past) q t ≡ has_given plan past q t

-- no verdict counts in p
abbrev pub NoneCounts : Plan → List Entry → ℕ → Type 0
NoneCounts plan past p = (t : ℕ) → has_given plan past p t ≡ false

-- by the entry t gives the verdict v in p, and it counts
pub record Says (plan : Plan) (past : List Entry) (e : Entry) (p t : ℕ) (v : Verdict) : Type 0 where
  pub gives : e.kind ≡ kind.Verdict
  pub here : e.place ≡ p
  pub own : e.by ≡ t
  pub says : verdict_at e ≡ v
  pub counts : has_given plan (e ∷ past) p t ≡ true

-- by the entry t gives up in p, and names this
pub record Aborts (e : Entry) (p t : ℕ) (name : Option ℕ) : Type 0 where
  pub aborts : e.kind ≡ kind.Abort
  pub here : e.place ≡ p
  pub own : e.by ≡ t
  pub names : exception_named e ≡ name

-- by the entry p is to be undone
pub record TurnsBack (e : Entry) (p : ℕ) : Type 0 where
  pub undoes : e.kind ≡ kind.Undo
  pub here : e.place ≡ p

-- the entry is the restore of the object of p that comes next by what is kept, well or failed
pub record Restores (plan : Plan) (endings : List Ending) (e : Entry) (p : ℕ) (well : Bool) : Type 0 where
  pub restores : e.kind ≡ kind.Restore
  pub here : e.place ≡ p
  pub next : slice_get (objects_of plan p) (tried_kept plan p (at endings p)) ≡ Some e.arg
  pub mark : (e.mark == 1) ≡ not well

-- the entry changes nothing of what is kept
pub record LeavesEndings (plan : Plan) (past : List Entry) (e : Entry) : Type 0 where
  pub apart : is_apart e ≡ true
  pub raises : (q : ℕ) → is_raised plan (e ∷ past) q ≡ is_raised plan past q
  pub counts : (q t : ℕ) → has_given plan (e ∷ past) q t ≡ has_given plan past q t

-- ---- the outcome

-- the verdict of t in p, where one that counts is kept
abbrev pub given_kept : Plan → ℕ → ℕ → Ending → Option Verdict
given_kept plan p t ending = if has_bit ending.given t then Some (verdict_kept plan p t ending) else None

-- the verdict of t in p, where one counts by the past
abbrev pub given_by : Plan → List Entry → ℕ → ℕ → Option Verdict
given_by plan past p t = if has_given plan past p t then verdict_of past p t else None

-- the exceptions that these roles signal in p by what is kept
abbrev pub signals_kept : Plan → ℕ → Ending → List ℕ → List ℕ
signals_kept plan p ending [] = []
signals_kept plan p ending (t ∷ ts) = signal_in (given_kept plan p t ending) ++ signals_kept plan p ending ts

-- what the roles of p signal by what is kept are exceptions of its interface
abbrev pub AreKnown : Plan → ℕ → Ending → Type 0
AreKnown plan p ending = All (λ x. x < (interface_of plan p).count) (signals_kept plan p ending (roles_of plan p))

-- p can end: each object was tried, or each role has given a verdict and none is undo
abbrev pub IsReady : Plan → ℕ → Ending → Type 0
IsReady plan p ending =
    MatchBool ending.undoing (ending.untried ≡ 0) ((list_all (has_bit ending.given) (roles_of plan p) ≡ true) × (ending.undo ≡ false))

-- the outcome of an undo: failed where the device refused a restore, aborted where the roles gave up, else undone
abbrev pub undone_outcome : Ending → Outcome
undone_outcome ending =
    if ending.failed then outcome.Failed else (if ending.aborted == 0 then outcome.Undone else outcome.Aborted)

-- the outcome of an agreement: commit where nothing is signalled, else the signal of the least cover
abbrev pub agreed_outcome : Option ℕ → Outcome
agreed_outcome None = outcome.Commit
agreed_outcome (Some x) = outcome.Signal x

-- an agreement on signals comes to this outcome
abbrev pub IsAgreed : CoverOrder → List ℕ → Outcome → Type 0
IsAgreed order xs o = (cover : Option ℕ) × IsCoverOf order xs cover × (o ≡ agreed_outcome cover)

-- p ends with this outcome by what is kept
abbrev pub Concludes : Plan → ℕ → Ending → Outcome → Type 0
Concludes plan p ending o =
    MatchBool ending.undoing (o ≡ undone_outcome ending) (IsAgreed (interface_of plan p) (signals_kept plan p ending (roles_of plan p)) o)

-- an End in p says this outcome
pub record SaysOutcome (e : Entry) (p : ℕ) (o : Outcome) : Type 0 where
  pub here : e.place ≡ p
  pub mark : e.mark ≡ (outcome_mark o).0
  pub arg : e.arg ≡ (outcome_mark o).1

-- what an End says is right by the past
abbrev pub IsRightEnd : Plan → List Entry → Entry → Type 0
IsRightEnd plan past e =
    MatchBool (is_undoing past e.place) ((e.mark ≡ undone_mark past e.place) × (e.arg ≡ 0))
    (SignalsLeast plan e (signals past e.place (roles_of plan e.place)))
