-- What a participant may do next by the rules, or what it lacks.
use Rattle.std.specs.Prelude.{◌≡◌, ℕ, Bool, true, false, not, ◌&&◌, if◌then◌else◌, List, Option, Some, None, is_none}
use Rattle.caa_base.specs.declared.written.entry.Entry.{Entry}
use Rattle.caa_base.specs.declared.written.entry.Kind.TheVariants as kind
use Rattle.caa_base.specs.Written.Lists.{same_option}
use Rattle.place_plan.specs.declared.drafts.draft_rows.Step.{Step}
use Rattle.place_plan.specs.declared.drafts.draft_rows.Step.TheVariants as step
use Rattle.place_plan.specs.Plans.PlanValue.{Plan}
use Rattle.place_plan.specs.RulesOfJournals.Entries.{is_of}
use Rattle.place_plan.specs.RulesOfJournals.Whereabouts.{inside, all_are_inside, has_started}
use Rattle.place_plan.specs.RulesOfJournals.Raising.{is_raised, is_doomed, all_are_halted, exception_resolved}
use Rattle.place_plan.specs.RulesOfJournals.Objects.{holder_of, objects_are_ready}
use Rattle.place_plan.specs.RulesOfJournals.Roles.{register, next_step, has_given, all_have_given, has_aborted, all_have_aborted, is_over}
use Rattle.place_plan.specs.RulesOfJournals.Journals.{HasNoEntry}
use Rattle.place_plan.specs.RulesOfJournals.Machine.{work_entry}
use Rattle.journal_laws.specs.Due.{as_refused}
use Rattle.journal_replay.specs.IsDue.{IsTheEntry, DeviceDecides}
use Rattle.journal_replay.specs.declared.moves.Work.{Work}
use Rattle.journal_replay.specs.declared.moves.Lack.{Lack}
use Rattle.journal_replay.specs.declared.moves.Lack.TheVariants as lack
use Rattle.journal_replay.specs.declared.moves.Move.{Move}
use Rattle.journal_replay.specs.declared.moves.Move.TheVariants as move

-- ---- what is lacking

-- what isn't so in p, and has to be before somebody who waits there goes on
abbrev pub IsLack : Plan → List Entry → ℕ → Lack → Type 0
IsLack plan past p lack.Roles = all_are_inside plan past p ≡ false
IsLack plan past p lack.Objects = (all_are_inside plan past p ≡ true) × (objects_are_ready plan past p ≡ false)
IsLack plan past p lack.Halts = all_are_halted plan past p ≡ false
IsLack plan past p lack.Verdicts = all_have_given plan past p ≡ false
IsLack plan past p lack.GiveUps = all_have_aborted plan past p ≡ false
IsLack plan past p (lack.Object o) = same_option (holder_of plan past o) (Some p) ≡ false

-- what a step waits for: the object that it reads or puts, until the place holds it; no other step waits
abbrev pub lack_of_step : Option Step → Option Lack
lack_of_step (Some (step.Read o)) = Some (lack.Object o)
lack_of_step (Some (step.Put o v)) = Some (lack.Object o)
lack_of_step (Some (step.Add o v)) = Some (lack.Object o)
lack_of_step _ = None

-- before the start of p all its roles have to be in it, and then its objects have to be free
abbrev pub lack_before : Plan → List Entry → ℕ → Lack
lack_before plan past p = if all_are_inside plan past p then lack.Objects else lack.Roles

-- in a doomed place all have to come back to it before t gives up, and then all have to give up
abbrev pub lack_in_doom : List Entry → ℕ → ℕ → Lack
lack_in_doom past p t = if has_aborted past p t then lack.GiveUps else lack.Roles

-- all have to be halted before what was raised is resolved
abbrev pub awaits_halts : Plan → List Entry → ℕ → Bool
awaits_halts plan past p = is_raised plan past p && is_none (exception_resolved past p)

-- once t has given its verdict it waits for those of the others, and until then its next step may wait
abbrev pub lack_at_work : Plan → List Entry → ℕ → ℕ → Option Lack
lack_at_work plan past p t =
    if has_given plan past p t then Some lack.Verdicts else lack_of_step (next_step plan past p t)

-- in a place that goes on
abbrev pub lack_going : Plan → List Entry → ℕ → ℕ → Option Lack
lack_going plan past p t = if awaits_halts plan past p then Some lack.Halts else lack_at_work plan past p t

-- what t, which is in p, waits for if it waits
abbrev pub lack_of : Plan → List Entry → ℕ → ℕ → Option Lack
lack_of plan past p t =
    if not (has_started past p) then Some (lack_before plan past p)
    else (if is_doomed plan past p then Some (lack_in_doom past p t)
    else lack_going plan past p t)

-- t is in this place, waits there for this, and it is lacking
pub record IsWait (plan : Plan) (past : List Entry) (t p : ℕ) (l : Lack) : Type 0 where
  pub here : inside plan past t ≡ Some p
  pub own : lack_of plan past p t ≡ Some l
  pub lacks : IsLack plan past p l

-- ---- the move of a participant

-- the one entry that t may make is that of this work, which starts with the register of t
pub record MayWorkNow (plan : Plan) (past : List Entry) (t : ℕ) (work : Work) : Type 0 where
  pub next : IsTheEntry plan past t (work_entry work.place t work.rounds work.from)
  pub start : work.from ≡ register plan past work.place t

-- e is the one entry that t may make, and isn't work
pub record MayMakeNow (plan : Plan) (past : List Entry) (t : ℕ) (e : Entry) : Type 0 where
  pub next : IsTheEntry plan past t e
  pub plain : is_of kind.Work e ≡ false

-- what the rules let t do after this past: it waits just where it has no entry, and isn't over
abbrev pub IsMove : Plan → List Entry → ℕ → Move → Type 0
IsMove plan past t (move.Make e) = MayMakeNow plan past t e
IsMove plan past t (move.Put e) = DeviceDecides plan past t e (as_refused e.kind e)
IsMove plan past t (move.Mix work) = MayWorkNow plan past t work
IsMove plan past t (move.Wait wait) =
    HasNoEntry plan past t × (is_over plan past t ≡ false) × IsWait plan past t wait.place wait.lack
IsMove plan past t move.Over = HasNoEntry plan past t × (is_over plan past t ≡ true)
