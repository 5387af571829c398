-- The rules of a journal: which entry may follow which past, one row for each kind.
use Rattle.std.specs.Prelude.{◌≡◌, ℕ, ℤ, pos, neg_ℤ, ◌+ℤ◌, ◌==◌, Bool, true, false, not, ◌&&◌, ◌||◌, if◌then◌else◌, List, [], ◌∷◌, Option, Some, None, MatchBool, MatchOption, is_none, int_lt}
use Rattle.cover_table.specs.Cover.{IsLeastCover}
use Rattle.caa_base.specs.Written.Limits.{most_value}
use Rattle.caa_base.specs.Written.Marks.{verdict_mark, mark_of, no_mark, naming_mark, taken_mark, refused_mark}
use Rattle.caa_base.specs.Written.Mixing.{mix}
use Rattle.caa_base.specs.declared.written.entry.Entry.{Entry}
use Rattle.caa_base.specs.declared.written.entry.Kind.{Kind}
use Rattle.caa_base.specs.declared.written.entry.Kind.TheVariants as kind
use Rattle.caa_base.specs.declared.written.entry.Outcome.{Outcome}
use Rattle.caa_base.specs.declared.written.entry.Outcome.TheVariants as outcome
use Rattle.caa_base.specs.declared.written.entry.Verdict.{Verdict}
use Rattle.caa_base.specs.declared.written.entry.Verdict.TheVariants as verdict
use Rattle.place_plan.specs.declared.drafts.draft_rows.AbortRow.{AbortRow}
use Rattle.place_plan.specs.declared.drafts.draft_rows.AbortRow.TheVariants as abort
use Rattle.place_plan.specs.declared.drafts.draft_rows.Step.{Step}
use Rattle.place_plan.specs.declared.drafts.draft_rows.Step.TheVariants as step
use Rattle.place_plan.specs.Plans.PlanValue.{Plan}
use Rattle.caa_base.specs.Written.Lists.{first_not}
use Rattle.place_plan.specs.Plans.Places.{parent, roles_of, handler_of, abort_row, internal_of, interface_of, alternates_of, nest_of, map_signal}
use Rattle.place_plan.specs.RulesOfJournals.Entries.{has, has_by, is_in, is_by, newest}
use Rattle.place_plan.specs.RulesOfJournals.Whereabouts.{outcome_at, inside, all_are_inside, has_started, has_ended, is_undoing, is_going, is_left_in_silence}
use Rattle.place_plan.specs.RulesOfJournals.Raising.{has_handled, exceptions_raised, is_doomed, is_calm, is_hot, is_halted, all_are_halted, exception_resolved}
use Rattle.place_plan.specs.RulesOfJournals.Objects.{holder_of, objects_are_ready, value_of, before_start, has_failed, next_restore}
use Rattle.place_plan.specs.RulesOfJournals.Roles.{register, program_of, next_step, next_raise, meets, has_given, all_have_given, is_handling, was_refused_in_handler, is_able, wants_undo, signals, has_aborted, all_have_aborted, next_play}

-- ---- what an entry says

-- beside its kind, place and maker the entry says nothing: its three further fields are 0
pub record IsPlain (e : Entry) : Type 0 where
  pub arg : e.arg ≡ 0
  pub mark : e.mark ≡ no_mark
  pub value : e.value ≡ pos 0

-- the entry names this exception, or none
abbrev pub Names : Entry → Option ℕ → Type 0
Names e None = (e.mark ≡ no_mark) × (e.arg ≡ 0)
Names e (Some x) = (e.mark ≡ naming_mark) × (e.arg ≡ x)

-- the entry says this verdict
abbrev pub SaysVerdict : Entry → Verdict → Type 0
SaysVerdict e v = (e.mark ≡ (verdict_mark v).0) × (e.arg ≡ (verdict_mark v).1)

-- ---- coming to a place, and going away from one that never started

-- the place that an enter step of t in q leads into: the first of its use, in order, in which t has not arrived
abbrev pub place_entered : Plan → List Entry → ℕ → ℕ → Option Step → Option ℕ
place_entered plan past q t (Some (step.Enter nest)) = first_not (λ p. has_by kind.Arrive past p t) (alternates_of plan q nest)
place_entered plan past q t _ = None

-- where t arrives next: from no place in its next play, and from a calm place that it is able in, where its next step leads
abbrev pub arrival : Plan → List Entry → ℕ → Option ℕ → Option ℕ
arrival plan past t None = next_play plan past t
arrival plan past t (Some q) =
    if is_calm plan past q && is_able plan past q t then place_entered plan past q t (next_step plan past q t) else None

-- a role arrives where its way leads next
pub record MayArrive (plan : Plan) (past : List Entry) (e : Entry) : Type 0 where
  pub leads : arrival plan past e.by (inside plan past e.by) ≡ Some e.place
  pub plain : IsPlain e

-- from a doomed place that has not started one withdraws
pub record MayWithdraw (plan : Plan) (past : List Entry) (e : Entry) : Type 0 where
  pub here : inside plan past e.by ≡ Some e.place
  pub waits : has_started past e.place ≡ false
  pub doom : is_doomed plan past e.place ≡ true
  pub plain : IsPlain e

-- a place starts once each role is in it and the place round it has all of its objects; for a play they have to be free
pub record MayStart (plan : Plan) (past : List Entry) (e : Entry) : Type 0 where
  pub here : inside plan past e.by ≡ Some e.place
  pub waits : has_started past e.place ≡ false
  pub spared : is_doomed plan past e.place ≡ false
  pub together : all_are_inside plan past e.place ≡ true
  pub ready : objects_are_ready plan past e.place ≡ true
  pub plain : IsPlain e

-- ---- steps

-- a read gives the object's value
pub record MayRead (plan : Plan) (past : List Entry) (e : Entry) : Type 0 where
  pub here : inside plan past e.by ≡ Some e.place
  pub can : is_able plan past e.place e.by ≡ true
  pub reads : next_step plan past e.place e.by ≡ Some (step.Read e.arg)
  pub holds : holder_of plan past e.arg ≡ Some e.place
  pub value : e.value ≡ value_of plan past e.arg
  pub mark : e.mark ≡ no_mark

-- work gives the mixed register
pub record MayWork (plan : Plan) (past : List Entry) (e : Entry) : Type 0 where
  pub here : inside plan past e.by ≡ Some e.place
  pub can : is_able plan past e.place e.by ≡ true
  pub works : next_step plan past e.place e.by ≡ Some (step.Work e.arg)
  pub value : e.value ≡ mix (register plan past e.place e.by) e.arg
  pub mark : e.mark ≡ no_mark

-- a number outside the values becomes the least of them or the greatest, whichever is nearer
abbrev pub clamped : ℤ → ℤ
clamped v =
    if int_lt (pos most_value) v then pos most_value
    else (if int_lt v (neg_ℤ (pos most_value)) then neg_ℤ (pos most_value) else v)

-- the object and the value that a step puts, at this register
abbrev pub put_of : Option Step → ℤ → Option (ℕ × ℤ)
put_of (Some (step.Put o v)) r = Some (o, v)
put_of (Some (step.Add o v)) r = Some (o, clamped (r +ℤ v))
put_of _ r = None

-- a write where the device took the put, a put fault where it refused
pub record MayPut (plan : Plan) (past : List Entry) (e : Entry) : Type 0 where
  pub here : inside plan past e.by ≡ Some e.place
  pub can : is_able plan past e.place e.by ≡ true
  pub puts : put_of (next_step plan past e.place e.by) (register plan past e.place e.by) ≡ Some (e.arg, e.value)
  pub holds : holder_of plan past e.arg ≡ Some e.place
  pub mark : e.mark ≡ no_mark

-- the step is a check
abbrev pub is_check : Option Step → Bool
is_check (Some (step.Check test bound x)) = true
is_check _ = false

-- a check that isn't met
pub record MayCheck (plan : Plan) (past : List Entry) (e : Entry) : Type 0 where
  pub here : inside plan past e.by ≡ Some e.place
  pub can : is_able plan past e.place e.by ≡ true
  pub checks : is_check (next_step plan past e.place e.by) ≡ true
  pub passes : next_raise plan past e.place e.by ≡ None
  pub plain : IsPlain e

-- ---- raising, and recovering together

-- what the next step of a role raises, the role raises, also once others have, as long as it isn't halted and has given no verdict
pub record MayRaise (plan : Plan) (past : List Entry) (e : Entry) : Type 0 where
  pub here : inside plan past e.by ≡ Some e.place
  pub when : is_calm plan past e.place || is_hot plan past e.place ≡ true
  pub running : is_halted plan past e.place e.by ≡ false
  pub unsaid : has_given plan past e.place e.by ≡ false
  pub raises : next_raise plan past e.place e.by ≡ Some e.arg
  pub mark : e.mark ≡ no_mark
  pub value : e.value ≡ pos 0

-- in a hot place a role that isn't halted is informed, also after its verdict, unless it is about to raise something itself
pub record MayInform (plan : Plan) (past : List Entry) (e : Entry) : Type 0 where
  pub here : inside plan past e.by ≡ Some e.place
  pub when : is_hot plan past e.place ≡ true
  pub running : is_halted plan past e.place e.by ≡ false
  pub silent : next_raise plan past e.place e.by ≡ None
  pub plain : IsPlain e

-- once all roles are halted, what was raised is resolved to its least cover
pub record MayResolve (plan : Plan) (past : List Entry) (e : Entry) : Type 0 where
  pub here : inside plan past e.by ≡ Some e.place
  pub when : is_hot plan past e.place ≡ true
  pub together : all_are_halted plan past e.place ≡ true
  pub fresh : exception_resolved past e.place ≡ None
  pub least : IsLeastCover (internal_of plan e.place) (exceptions_raised plan past e.place) e.arg
  pub mark : e.mark ≡ no_mark
  pub value : e.value ≡ pos 0

-- each role that has a handler for the resolved exception begins it
pub record MayHandle (plan : Plan) (past : List Entry) (e : Entry) : Type 0 where
  pub here : inside plan past e.by ≡ Some e.place
  pub when : is_hot plan past e.place ≡ true
  pub resolution : exception_resolved past e.place ≡ Some e.arg
  pub able_to : is_none (handler_of plan e.place e.by e.arg) ≡ false
  pub fresh : has_handled past e.place e.by ≡ false
  pub mark : e.mark ≡ no_mark
  pub value : e.value ≡ pos 0

-- ---- verdicts

-- the verdict of the program of t, once its steps are done
abbrev pub final_verdict : Plan → List Entry → ℕ → ℕ → Option Verdict
final_verdict plan past p t = if is_none (next_step plan past p t) then Some (program_of plan past p t).verdict else None

-- where something is resolved for which t has nothing to run, t asks for undo
abbrev pub unhandled_verdict : Plan → ℕ → ℕ → Option ℕ → Option Verdict
unhandled_verdict plan p t None = None
unhandled_verdict plan p t (Some x) = if is_none (handler_of plan p t x) then Some verdict.Undo else None

-- the handler of t is broken off: a put was refused in it, or its next step raises
abbrev pub breaks_off : Plan → List Entry → ℕ → ℕ → Bool
breaks_off plan past p t = was_refused_in_handler past p t || not (is_none (next_raise plan past p t))

-- what a handler says at its end: undo where it is broken off
abbrev pub handler_verdict : Plan → List Entry → ℕ → ℕ → Option Verdict
handler_verdict plan past p t = if breaks_off plan past p t then Some verdict.Undo else final_verdict plan past p t

-- the verdict that is due from t in p: in a calm place at the end of the body; in a hot one from the handler, or, once the place
-- is resolved, from a role without one
abbrev pub verdict_due : Plan → List Entry → ℕ → ℕ → Option Verdict
verdict_due plan past p t =
    if is_calm plan past p then (if has_given plan past p t then None else final_verdict plan past p t)
    else (if not (is_hot plan past p) then None
    else (if has_handled past p t then (if is_handling past p t then handler_verdict plan past p t else None)
    else (if has_given plan past p t then None else unhandled_verdict plan p t (exception_resolved past p))))

-- a role gives the verdict that is due from it
pub record MayVerdict (plan : Plan) (past : List Entry) (e : Entry) : Type 0 where
  pub here : inside plan past e.by ≡ Some e.place
  pub due : MatchOption (verdict_due plan past e.place e.by) ⊥ (SaysVerdict e)
  pub value : e.value ≡ pos 0

-- ---- aborts and undo

-- the exception that an abort names, at this register
abbrev pub abort_of : AbortRow → ℤ → Option ℕ
abort_of abort.Never r = None
abort_of (abort.Always x) r = Some x
abort_of (abort.Where test bound x) r = if meets test bound r then Some x else None

-- in a doomed place that goes on each role gives up, once no role is further in
pub record MayAbort (plan : Plan) (past : List Entry) (e : Entry) : Type 0 where
  pub here : inside plan past e.by ≡ Some e.place
  pub when : is_going past e.place ≡ true
  pub doom : is_doomed plan past e.place ≡ true
  pub together : all_are_inside plan past e.place ≡ true
  pub fresh : has_aborted past e.place e.by ≡ false
  pub names : Names e (abort_of (abort_row plan e.place e.by) (register plan past e.place e.by))
  pub value : e.value ≡ pos 0

-- the place is spared, each role has a verdict there, and some verdict is undo
pub record AskForUndo (plan : Plan) (past : List Entry) (p : ℕ) : Type 0 where
  pub spared : is_doomed plan past p ≡ false
  pub agreed : all_have_given plan past p ≡ true
  pub wanted : wants_undo plan past p ≡ true

-- all roles have given up, or they ask for undo
abbrev pub HaveAgreed : Plan → List Entry → ℕ → Type 0
HaveAgreed plan past p = MatchBool (all_have_aborted plan past p) (Unit {0}) (AskForUndo plan past p)

-- a place that goes on is undone once its roles have agreed on it
pub record MayUndo (plan : Plan) (past : List Entry) (e : Entry) : Type 0 where
  pub here : inside plan past e.by ≡ Some e.place
  pub when : is_going past e.place ≡ true
  pub agreed : HaveAgreed plan past e.place
  pub plain : IsPlain e

-- the objects get back the values that they had at the start, in order, as far as the device takes them
pub record MayRestore (plan : Plan) (past : List Entry) (e : Entry) : Type 0 where
  pub here : inside plan past e.by ≡ Some e.place
  pub when : is_undoing past e.place ≡ true
  pub lasts : has_ended past e.place ≡ false
  pub least : next_restore plan past e.place ≡ Some e.arg
  pub value : e.value ≡ value_of plan (before_start past e.place) e.arg
  pub mark : (e.mark == taken_mark) || (e.mark == refused_mark) ≡ true

-- ---- ends

-- what the roles signal is nothing, or has this least cover
abbrev pub SignalsLeast : Plan → Entry → List ℕ → Type 0
SignalsLeast plan e [] = (e.mark ≡ mark_of outcome.Commit) × (e.arg ≡ 0)
SignalsLeast plan e (x ∷ xs) = (e.mark ≡ mark_of (outcome.Signal 0)) × IsLeastCover (interface_of plan e.place) (x ∷ xs) e.arg

-- the mark of an End after an undo: failed where the device refused a restore, aborted where the roles gave up, else undone
abbrev pub undone_mark : List Entry → ℕ → ℕ
undone_mark past p =
    if has_failed past p then mark_of outcome.Failed
    else (if has kind.Abort past p then mark_of outcome.Aborted else mark_of outcome.Undone)

-- an undo ends once each object was tried
pub record EndsUndone (plan : Plan) (past : List Entry) (e : Entry) : Type 0 where
  pub lasts : has_ended past e.place ≡ false
  pub all_tried : next_restore plan past e.place ≡ None
  pub mark : e.mark ≡ undone_mark past e.place
  pub arg : e.arg ≡ 0

-- a spared place ends by its verdicts once each role has one, and none is undo
pub record EndsAgreed (plan : Plan) (past : List Entry) (e : Entry) : Type 0 where
  pub goes : is_going past e.place ≡ true
  pub spared : is_doomed plan past e.place ≡ false
  pub agreed : all_have_given plan past e.place ≡ true
  pub kept : wants_undo plan past e.place ≡ false
  pub outcome : SignalsLeast plan e (signals past e.place (roles_of plan e.place))

-- a place ends once, after an undo or after an agreement
pub record MayEnd (plan : Plan) (past : List Entry) (e : Entry) : Type 0 where
  pub here : inside plan past e.by ≡ Some e.place
  pub how : MatchBool (is_undoing past e.place) (EndsUndone plan past e) (EndsAgreed plan past e)
  pub value : e.value ≡ pos 0

-- ---- leaving

-- what an Abort names, in the place round p
abbrev pub abort_mapped : Plan → ℕ → Option Entry → Option ℕ
abort_mapped plan p None = None
abort_mapped plan p (Some e) = if e.mark == naming_mark then Some (map_signal plan p e.arg) else None

-- what an outcome of p means in the place round p: nothing after a commit, the exception that its signal, its undo or its failure is
-- there, and after an abort the one that the Abort of who leaves is there
abbrev pub mapped_by_outcome : Plan → ℕ → Option Entry → Outcome → Option ℕ
mapped_by_outcome plan p abort outcome.Commit = None
mapped_by_outcome plan p abort (outcome.Signal x) = Some (map_signal plan p x)
mapped_by_outcome plan p abort outcome.Undone = Some (nest_of plan p).undo
mapped_by_outcome plan p abort outcome.Aborted = abort_mapped plan p abort
mapped_by_outcome plan p abort outcome.Failed = Some (nest_of plan p).failure

-- what the End of p means in the place round p
abbrev pub outcome_mapped : Plan → ℕ → Option Entry → Option Entry → Option ℕ
outcome_mapped plan p None abort = None
outcome_mapped plan p (Some end) abort = mapped_by_outcome plan p abort (outcome_at end)

-- nothing is carried out of a play, or into a doomed place
abbrev pub is_deaf : Plan → List Entry → Option ℕ → Bool
is_deaf plan past None = true
is_deaf plan past (Some q) = is_doomed plan past q

-- the exception that t carries out of p; none where it goes on to the next alternate
abbrev pub exception_carried : Plan → List Entry → ℕ → ℕ → Option ℕ
exception_carried plan past p t =
    if is_deaf plan past (parent plan p) || is_left_in_silence plan past p then None
    else outcome_mapped plan p (newest (is_in kind.End p) past) (newest (is_by kind.Abort p t) past)

-- a participant leaves a place that has ended, with the exception that it carries out
pub record MayLeave (plan : Plan) (past : List Entry) (e : Entry) : Type 0 where
  pub here : inside plan past e.by ≡ Some e.place
  pub when : has_ended past e.place ≡ true
  pub carries : Names e (exception_carried plan past e.place e.by)
  pub value : e.value ≡ pos 0

-- ---- all kinds

-- the rule for each kind of entry
abbrev pub Row : Kind → Plan → List Entry → Entry → Type 0
Row kind.Arrive = MayArrive
Row kind.Withdraw = MayWithdraw
Row kind.Start = MayStart
Row kind.Read = MayRead
Row kind.Work = MayWork
Row kind.Write = MayPut
Row kind.Check = MayCheck
Row kind.PutFault = MayPut
Row kind.Raise = MayRaise
Row kind.Inform = MayInform
Row kind.Resolve = MayResolve
Row kind.Handle = MayHandle
Row kind.Verdict = MayVerdict
Row kind.Abort = MayAbort
Row kind.Undo = MayUndo
Row kind.Restore = MayRestore
Row kind.End = MayEnd
Row kind.Leave = MayLeave

-- the entry may follow the past
abbrev pub MayFollow : Plan → List Entry → Entry → Type 0
MayFollow plan past e = Row e.kind plan past e
