-- What holds of every legal journal of a plan. `past` is its entries, the newest first.
use Rattle.std.specs.Prelude.{◌≡◌, ℕ, ℤ, ◌==◌, ◌+◌, ◌<◌, ◌≤◌, ◌⊎◌, ◌↔◌, Bool, true, false, ◌&&◌, ◌||◌, if◌then◌else◌, List, [], ◌∷◌, ◌++◌, length, count_by, Option, Some, None, is_none, suc}
use Rattle.std.specs.List.{list_any, list_all}
use Rattle.cover_table.specs.Cover.{IsLeastCover, covers}
use Rattle.caa_base.specs.declared.written.entry.Entry.{Entry}
use Rattle.caa_base.specs.declared.written.entry.Kind.{Kind}
use Rattle.caa_base.specs.declared.written.entry.Kind.TheVariants as kind
use Rattle.caa_base.specs.declared.written.entry.Outcome.TheVariants as outcome
use Rattle.caa_base.specs.declared.written.entry.Verdict.TheVariants as verdict
use Rattle.place_plan.specs.Plans.PlanValue.{Plan}
use Rattle.caa_base.specs.Written.Lists.{member}
use Rattle.caa_base.specs.Written.Marks.{mark_of, verdict_mark, taken_mark, refused_mark}
use Rattle.place_plan.specs.Plans.Places.{around, parent, is_within, roles_of, uses, initial_of, internal_of, fault_of, nest_of, handler_of}
use Rattle.place_plan.specs.RulesOfJournals.Entries.{is_of, is_in, is_by, has, has_by, newest}
use Rattle.place_plan.specs.RulesOfJournals.Whereabouts.{inside, stays, is_live, has_ended, has_started, is_undoing}
use Rattle.place_plan.specs.RulesOfJournals.Raising.{exceptions_raised, is_raised, is_doomed, has_handled, all_are_halted, exception_resolved}
use Rattle.place_plan.specs.RulesOfJournals.Objects.{holder_of, value_of, writes, has_failed}
use Rattle.place_plan.specs.RulesOfJournals.Roles.{gathers, all_have_given, all_have_aborted}
use Rattle.place_plan.specs.RulesOfJournals.Rules.{MayFollow}
use Rattle.place_plan.specs.RulesOfJournals.Journals.{LegalPast, AllOver, HasNoEntry, is_put, plays_ended, committed_value}
use Rattle.place_plan.specs.Plans.Bound.{bound}

-- what a law says holds of every legal journal of the plan
abbrev pub Holds : (Plan → List Entry → Type 0) → Plan → Type 0
Holds Law plan = (past : List Entry) → LegalPast plan past → Law plan past

-- e stands in the past, after `before` and before `later`
abbrev pub Splits : List Entry → List Entry → Entry → List Entry → Type 0
Splits past later e before = past ≡ later ++ e ∷ before

-- ---- the plain words for what is computed along the entries

-- inside is the innermost of the places in which a participant stays
abbrev pub InsideIsInnermost : Plan → List Entry → Type 0
InsideIsInnermost plan past =
    (t p : ℕ) → (inside plan past t ≡ Some p)
    ↔ ((stays past p t ≡ true) × ((q : ℕ) → stays past q t ≡ true → is_within plan p q ≡ true))

-- an object is held by a live place that uses it, and each other such place is round that one
abbrev pub HolderIsInnermost : Plan → List Entry → Type 0
HolderIsInnermost plan past =
    (o p : ℕ) → (holder_of plan past o ≡ Some p)
    ↔ ((is_live past p ≡ true) × (uses plan p o ≡ true)
    × ((q : ℕ) → is_live past q ≡ true → uses plan q o ≡ true → is_within plan p q ≡ true))

-- ---- the next entry

-- the entry, as if the device had taken its put
abbrev pub as_taken : Kind → Entry → Entry
as_taken kind.PutFault e = record e { kind = kind.Write }
as_taken kind.Restore e = record e { mark = taken_mark }
as_taken _ e = e

-- two entries that a participant could make next differ only in what the device answers
abbrev pub AtMostOne : Plan → List Entry → Type 0
AtMostOne plan past =
    (e f : Entry) → MayFollow plan past e → MayFollow plan past f → e.by ≡ f.by → as_taken e.kind e ≡ as_taken f.kind f

-- some participant has an entry
pub record HasEntry (plan : Plan) (past : List Entry) : Type 0 where
  pub entry : Entry
  pub known : entry.by < length plan.participants
  pub may : MayFollow plan past entry

-- progress law: where a participant isn't over, some participant has an entry
abbrev pub GoesOn : Plan → List Entry → Type 0
GoesOn plan past = (AllOver plan past → ⊥) → HasEntry plan past

-- length law: there are at most as many entries as the bound says
abbrev pub IsBounded : Plan → List Entry → Type 0
IsBounded plan past = length past ≤ bound plan

-- ---- who sleeps on

-- t has a role in the place, where there is one
abbrev pub has_role_in : Plan → ℕ → Option ℕ → Bool
has_role_in plan t None = false
has_role_in plan t (Some p) = member t (roles_of plan p)

-- an entry of this kind in p may bring what t waits for: that somebody comes to a place of t or back to it, says something there or
-- learns it, or gives back its objects; those of a play anybody may wait for
abbrev pub wakes_by : Plan → Kind → ℕ → ℕ → Bool
wakes_by plan kind.Arrive p t = member t (roles_of plan p)
wakes_by plan kind.PutFault p t = member t (roles_of plan p)
wakes_by plan kind.Raise p t = member t (roles_of plan p)
wakes_by plan kind.Inform p t = member t (roles_of plan p)
wakes_by plan kind.Verdict p t = member t (roles_of plan p)
wakes_by plan kind.Abort p t = member t (roles_of plan p)
wakes_by plan kind.Withdraw p t = has_role_in plan t (parent plan p)
wakes_by plan kind.Leave p t = has_role_in plan t (parent plan p)
wakes_by plan kind.End p t = is_none (parent plan p) || has_role_in plan t (parent plan p)
wakes_by plan _ p t = false

-- the entry, the newest of the past, may wake t: it gathers the roles of its place, and may bring what t waits for
abbrev pub wakes : Plan → List Entry → Entry → ℕ → Bool
wakes plan past e t = gathers plan past e.place e.kind && wakes_by plan e.kind e.place t

-- who has no entry still has none after an entry of somebody else that doesn't wake it
abbrev pub SleepsOn : Plan → List Entry → Type 0
SleepsOn plan past =
    (e : Entry) (t : ℕ) → MayFollow plan past e → (e.by == t) ≡ false → wakes plan (e ∷ past) e t ≡ false
    → HasNoEntry plan past t → HasNoEntry plan (e ∷ past) t

-- ---- stop law

-- the kinds of entry by which a role works, or asks the device to change something, in its body or its handler
abbrev pub takes_step : Kind → Bool
takes_step kind.Read = true
takes_step kind.Work = true
takes_step kind.Write = true
takes_step kind.PutFault = true
takes_step kind.Check = true
takes_step _ = false

-- nobody goes on with ordinary work once something is raised, and no handler begins before all have stopped
pub record StopLaw (plan : Plan) (past : List Entry) : Type 0 where
  -- once something is raised in p, whoever takes a step in p or inside it takes it in p, and in its handler
  pub stopped : (p : ℕ) (later before : List Entry) (e : Entry) → Splits past later e before → is_raised plan before p ≡ true
      → is_within plan e.place p ≡ true → takes_step e.kind ≡ true → (e.place ≡ p) × (has_handled before p e.by ≡ true)
  -- no handler begins in p before each role of p has stopped
  pub together : (p : ℕ) (later before : List Entry) (e : Entry) → Splits past later e before → is_in kind.Handle p e ≡ true
      → all_are_halted plan before p ≡ true

-- ---- still law

-- the kinds of entry that come in a place once its undo has begun: its restores, its end, and the leaves of its roles
abbrev pub follows_undo : Kind → Bool
follows_undo kind.Restore = true
follows_undo kind.End = true
follows_undo kind.Leave = true
follows_undo _ = false

-- while the objects of a place are set back, nobody moves in it
pub record StillLaw (plan : Plan) (past : List Entry) : Type 0 where
  -- an object is restored in p only after the undo of p, and once each role of p has given up there, or each has given its verdict
  pub agreed : (p : ℕ) (later before : List Entry) (e : Entry) → Splits past later e before → is_in kind.Restore p e ≡ true
      → (is_undoing before p ≡ true) × (all_have_aborted plan before p || all_have_given plan before p ≡ true)
  -- after the undo of p nothing comes inside p, and in p itself only what follows an undo
  pub quiet : (p : ℕ) (later before : List Entry) (e : Entry) → Splits past later e before → is_undoing before p ≡ true
      → is_within plan e.place p ≡ true → (e.place ≡ p) × (follows_undo e.kind ≡ true)

-- ---- resolution law

-- whoever handles something in p handles the least cover of whatever the journal raises there; all handle the same
pub record HandlesLeast (plan : Plan) (past : List Entry) (p : ℕ) : Type 0 where
  pub least : (later before : List Entry) (e : Entry) → Splits past later e before → is_in kind.Handle p e ≡ true
      → IsLeastCover (internal_of plan p) (exceptions_raised plan past p) e.arg
  pub one : (later before later' before' : List Entry) (e f : Entry) → Splits past later e before → Splits past later' f before'
      → is_in kind.Handle p e ≡ true → is_in kind.Handle p f ≡ true → e.arg ≡ f.arg

-- t gave the verdict undo in p after the Resolve of p
pub record AskedForUndo (past : List Entry) (p t : ℕ) : Type 0 where
  pub later : List Entry
  pub entry : Entry
  pub before : List Entry
  pub stands : Splits past later entry before
  pub own : is_by kind.Verdict p t entry ≡ true
  pub undo : entry.mark ≡ (verdict_mark verdict.Undo).0
  pub resolution : has kind.Resolve before p ≡ true

-- t handled x in p, or asked for undo since there is nothing in its role to handle it
abbrev pub Answered : Plan → List Entry → ℕ → ℕ → ℕ → Type 0
Answered plan past p x t =
    (list_any (λ e. is_by kind.Handle p t e && (e.arg == x)) past ≡ true)
    ⊎ ((is_none (handler_of plan p t x) ≡ true) × AskedForUndo past p t)

-- p is resolved, and each role has answered
pub record IsAnswered (plan : Plan) (past : List Entry) (p : ℕ) : Type 0 where
  pub exception : ℕ
  pub resolution : exception_resolved past p ≡ Some exception
  pub each : (t : ℕ) → member t (roles_of plan p) ≡ true → Answered plan past p exception t

-- what is handled in a place is the least cover of all that was raised in it, and without aborts no place ends before its roles
-- have answered
pub record ResolutionLaw (plan : Plan) (past : List Entry) : Type 0 where
  pub handles : (p : ℕ) → HandlesLeast plan past p
  -- a place in which something was raised, and which ended without aborts, was resolved and answered
  pub answered : (p : ℕ) → has_ended past p ≡ true → has kind.Abort past p ≡ false → is_raised plan past p ≡ true
      → IsAnswered plan past p

-- ---- exit law

-- an End of p between these parts of the journal is the only one; each role has said something before it, none has left, and
-- after it the place is only left
pub record EndsOnce (plan : Plan) (p : ℕ) (later before : List Entry) : Type 0 where
  pub only_left : (later' before' : List Entry) (e : Entry) → Splits later later' e before' → e.place ≡ p → e.kind ≡ kind.Leave
  pub first : has_ended before p ≡ false
  pub together : has kind.Leave before p ≡ false
  pub each : (t : ℕ) → member t (roles_of plan p) ≡ true → has_by kind.Verdict before p t || has_by kind.Abort before p t ≡ true

-- each End is the only one of its place, after what each role says and before any leaves
abbrev pub ExitLaw : Plan → List Entry → Type 0
ExitLaw plan past =
    (p : ℕ) (later before : List Entry) (e : Entry) → Splits past later e before → is_in kind.End p e ≡ true
    → EndsOnce plan p later before

-- ---- outcome law

-- the entry is a restore of o in p, with this mark: 0 where the device took it, 1 where it refused
abbrev pub is_restore : ℕ → ℕ → ℕ → Entry → Bool
is_restore p o mark e = is_in kind.Restore p e && ((e.arg == o) && (e.mark == mark))

-- what the restores of p are, by the mark of its End: none after a commit or a signal; each object restored after an undo or an
-- abort; each object tried once, and one refused, after a failure
pub record RestoresFit (plan : Plan) (past : List Entry) (p mark : ℕ) : Type 0 where
  pub kept : (mark ≡ mark_of outcome.Commit) ⊎ (mark ≡ mark_of (outcome.Signal 0)) → has kind.Restore past p ≡ false
  pub undone : (mark ≡ mark_of outcome.Undone) ⊎ (mark ≡ mark_of outcome.Aborted) → (o : ℕ) → uses plan p o ≡ true → list_any (is_restore p o taken_mark) past ≡ true
  pub tried : mark ≡ mark_of outcome.Failed → (o : ℕ) → uses plan p o ≡ true → count_by (is_restore p o taken_mark) past + count_by (is_restore p o refused_mark) past ≡ 1
  pub refused : mark ≡ mark_of outcome.Failed → has_failed past p ≡ true

-- the restores of a place that has ended are what its End says
abbrev pub OutcomeLaw : Plan → List Entry → Type 0
OutcomeLaw plan past = (p : ℕ) (e : Entry) → newest (is_in kind.End p) past ≡ Some e → RestoresFit plan past p e.mark

-- ---- effect law

-- the End of a place, where it has one, is a commit or a signal
abbrev pub is_kept_mark : Option Entry → Bool
is_kept_mark None = false
is_kept_mark (Some e) = (e.mark == mark_of outcome.Commit) || (e.mark == mark_of (outcome.Signal 0))

-- p ended by commit or signal
abbrev pub keeps_effects : List Entry → ℕ → Bool
keeps_effects past p = is_kept_mark (newest (is_in kind.End p) past)

-- p and each place round it did
abbrev pub is_kept : Plan → List Entry → ℕ → Bool
is_kept plan past p = list_all (keeps_effects past) (p ∷ around plan p)

-- the newest write of o that passes a test gives the value; where there is none, it is the initial one
abbrev pub last_write : Plan → List Entry → ℕ → (Entry → Bool) → ℤ
last_write plan [] o test = initial_of plan o
last_write plan (e ∷ past) o test = if writes o e && test e then e.value else last_write plan past o test

-- the device refused a restore of o
abbrev pub has_failed_restore : List Entry → ℕ → Bool
has_failed_restore past o = list_any (λ e. is_of kind.Restore e && ((e.arg == o) && (e.mark == refused_mark))) past

-- in a complete journal an object that no restore failed for holds what the kept places alone leave
abbrev pub EffectLaw : Plan → List Entry → Type 0
EffectLaw plan past =
    AllOver plan past → (o : ℕ) → has_failed_restore past o ≡ false
    → value_of plan past o ≡ last_write plan past o (λ e. is_kept plan past e.place)

-- ---- reaction law

-- each role of p handled something there that covers x
abbrev pub IsCovered : Plan → List Entry → ℕ → ℕ → Type 0
IsCovered plan past p x =
    (t : ℕ) → member t (roles_of plan p) ≡ true
    → list_any (λ e. is_by kind.Handle p t e && covers (internal_of plan p) e.arg x) past ≡ true

-- neither what is raised in a place, nor a put or a restore that the device refuses there, is passed over
pub record ReactionLaw (plan : Plan) (past : List Entry) : Type 0 where
  -- a place keeps its effects over what was raised in it only where each role handled what covers that
  pub raised : (p x : ℕ) → keeps_effects past p ≡ true → member x (exceptions_raised plan past p) ≡ true → IsCovered plan past p x
  -- and over a put that was refused there only where its maker wasn't in a handler, and each role handled what covers the fault
  pub refused : (p : ℕ) (later before : List Entry) (e : Entry) → Splits past later e before → is_in kind.PutFault p e ≡ true
      → keeps_effects past p ≡ true → (has_handled before p e.by ≡ false) × IsCovered plan past p (fault_of plan p)
  -- a place in which a restore was refused ends failed
  pub failed : (p : ℕ) (f : Entry) → has_failed past p ≡ true → newest (is_in kind.End p) past ≡ Some f
      → f.mark ≡ mark_of outcome.Failed
  -- who leaves a place that failed raises that in the place round it, unless that one is given up anyway
  pub told : (c p : ℕ) (later before : List Entry) (e f : Entry) → Splits past later e before → is_in kind.Leave c e ≡ true
      → parent plan c ≡ Some p → is_doomed plan before p ≡ false → newest (is_in kind.End c) before ≡ Some f
      → f.mark ≡ mark_of outcome.Failed → member (nest_of plan c).failure (exceptions_raised plan past p) ≡ true
  -- so that one keeps its effects only where each role handled what covers the failure
  pub inner : (c p : ℕ) → parent plan c ≡ Some p → has_failed past c ≡ true → keeps_effects past p ≡ true
      → IsCovered plan past p (nest_of plan c).failure

-- ---- device law

-- the value that was put last in o, by a write or a restore that the device took, else the initial one
abbrev pub last_put : Plan → List Entry → ℕ → ℤ
last_put plan [] o = initial_of plan o
last_put plan (e ∷ past) o = if is_put e && (e.arg == o) then e.value else last_put plan past o

-- what was put last in an object is its value by the journal: so a device that keeps what it took has that value
abbrev pub DeviceLaw : Plan → List Entry → Type 0
DeviceLaw plan past = (o : ℕ) → last_put plan past o ≡ value_of plan past o

-- ---- inner-first law

-- no role gives up a place while one inside it has started and not ended, nor does one start there later
abbrev pub InnerFirstLaw : Plan → List Entry → Type 0
InnerFirstLaw plan past =
    (p q : ℕ) (later before : List Entry) (e : Entry) → Splits past later e before → is_in kind.Abort p e ≡ true
    → member p (around plan q) ≡ true → has_started past q ≡ true → has_ended before q ≡ true

-- ---- isolation law

-- the kinds of entry that read an object, or that ask the device to change it
abbrev pub touches_object : Kind → Bool
touches_object kind.Read = true
touches_object kind.Write = true
touches_object kind.PutFault = true
touches_object kind.Restore = true
touches_object _ = false

-- no two places that go on side by side have one object
pub record IsolationLaw (plan : Plan) (past : List Entry) : Type 0 where
  -- where two places that are live together share an object, one lies within the other
  pub nested : (later before : List Entry) (p q o : ℕ) → past ≡ later ++ before
      → is_live before p ≡ true → is_live before q ≡ true → uses plan p o ≡ true → uses plan q o ≡ true
      → is_within plan p q || is_within plan q p ≡ true
  -- whoever touches an object is in the place that is its holder just then
  pub held : (later before : List Entry) (e : Entry) → Splits past later e before → touches_object e.kind ≡ true
      → holder_of plan before e.arg ≡ Some e.place

-- ---- commit law

-- each play commits its objects as it ends, and no later entry changes what was committed
pub record CommitLaw (plan : Plan) (past : List Entry) : Type 0 where
  -- the values by the first plays that ended are the same as the journal goes on
  pub stays : (later before : List Entry) (n o : ℕ) → past ≡ later ++ before → n ≤ length (plays_ended plan before)
      → committed_value plan past n o ≡ committed_value plan before n o
  -- an object of the play gets the value that it has at the end, and each other object keeps its own
  pub commits : (p o : ℕ) (later before : List Entry) (e : Entry) → Splits past later e before
      → is_in kind.End p e ≡ true → parent plan p ≡ None
      → committed_value plan past (suc (length (plays_ended plan before))) o
      ≡ (if uses plan p o then value_of plan (e ∷ before) o else committed_value plan past (length (plays_ended plan before)) o)
  -- in a complete journal as many plays have ended as there are
  pub whole : AllOver plan past → length (plays_ended plan past) ≡ length plan.plays

-- ---- all laws of one journal

-- nine of the laws at once
pub record KeepsLaws (plan : Plan) (past : List Entry) : Type 0 where
  pub stops : StopLaw plan past
  pub still : StillLaw plan past
  pub resolution : ResolutionLaw plan past
  pub exits : ExitLaw plan past
  pub outcomes : OutcomeLaw plan past
  pub effects : EffectLaw plan past
  pub reacts : ReactionLaw plan past
  pub inner_first : InnerFirstLaw plan past
  pub isolation : IsolationLaw plan past
