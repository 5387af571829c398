-- The entry that the rules give a participant, computed from the past.
use Rattle.std.specs.Prelude.{◌≡◌, ℕ, ℤ, pos, ◌+ℤ◌, Bool, true, not, ◌&&◌, ◌||◌, if◌then◌else◌, List, [], ◌∷◌, Option, Some, None, is_none}
use Rattle.std.specs.List.{list_all, range_with_len}
use Rattle.cover_table.specs.Cover.{CoverOrder, covers, covers_each}
use Rattle.caa_base.specs.Written.Marks.{verdict_mark, mark_of, no_mark, naming_mark, refused_mark}
use Rattle.caa_base.specs.Written.Mixing.{mix}
use Rattle.caa_base.specs.declared.written.entry.Entry.{Entry}
use Rattle.caa_base.specs.declared.written.entry.Kind.{Kind}
use Rattle.caa_base.specs.declared.written.entry.Kind.TheVariants as kind
use Rattle.caa_base.specs.declared.written.entry.Outcome.TheVariants as outcome
use Rattle.caa_base.specs.declared.written.entry.Verdict.{Verdict}
use Rattle.caa_base.specs.declared.written.entry.Verdict.TheVariants as verdict
use Rattle.place_plan.specs.declared.drafts.draft_rows.Step.{Step}
use Rattle.place_plan.specs.declared.drafts.draft_rows.Step.TheVariants as step
use Rattle.place_plan.specs.Plans.PlanValue.{Plan}
use Rattle.caa_base.specs.Written.Lists.{first_not, same_option}
use Rattle.place_plan.specs.Plans.Places.{roles_of, internal_of, interface_of, handler_of, abort_row}
use Rattle.place_plan.specs.RulesOfJournals.Whereabouts.{inside, all_are_inside, has_started, has_ended, is_undoing}
use Rattle.place_plan.specs.RulesOfJournals.Raising.{has_handled, exceptions_raised, is_raised, is_doomed, is_halted, all_are_halted, exception_resolved}
use Rattle.place_plan.specs.RulesOfJournals.Objects.{holder_of, objects_are_ready, value_of, before_start, next_restore}
use Rattle.place_plan.specs.RulesOfJournals.Roles.{register, program_of, next_step, next_raise, has_given, all_have_given, wants_undo, signals, has_aborted, all_have_aborted, next_play, is_over}
use Rattle.place_plan.specs.RulesOfJournals.Rules.{MayFollow, place_entered, clamped, breaks_off, abort_of, undone_mark, exception_carried}
use Rattle.place_plan.specs.RulesOfJournals.Journals.{HasNoEntry, is_put}
use Rattle.journal_laws.specs.Laws.{as_taken}

-- ---- what an entry says

-- an entry of t in p that says this, without a mark
abbrev pub says : Kind → ℕ → ℕ → ℕ → ℤ → Entry
says k p t arg value = record { kind = k; place = p; by = t; arg = arg; mark = no_mark; value = value }

-- an entry of t in p whose further fields are 0
abbrev pub plainly : Kind → ℕ → ℕ → Entry
plainly k p t = says k p t 0 (pos 0)

-- an entry of t in p with this mark and this exception
abbrev pub marked : Kind → ℕ → ℕ → ℕ → ℕ → Entry
marked k p t mark arg = record { kind = k; place = p; by = t; arg = arg; mark = mark; value = pos 0 }

-- an entry of t in p that names an exception, or none
abbrev pub naming : Kind → ℕ → ℕ → Option ℕ → Entry
naming k p t None = plainly k p t
naming k p t (Some x) = marked k p t naming_mark x

-- the entry of t in p that says this verdict
abbrev pub verdict_entry : ℕ → ℕ → Verdict → Entry
verdict_entry p t v = marked kind.Verdict p t (verdict_mark v).0 (verdict_mark v).1

-- ---- the least cover

-- x covers each of these, and each number that does covers x
abbrev pub is_least : CoverOrder → List ℕ → ℕ → Bool
is_least order xs x =
    covers_each order x xs
    && list_all (λ y. not (covers_each order y xs) || covers order y x) (range_with_len 0 order.count)

-- the least cover, found by trying one number after another
abbrev pub least_of : CoverOrder → List ℕ → Option ℕ
least_of order xs = first_not (λ x. not (is_least order xs x)) (range_with_len 0 order.count)

-- ---- the decision, from the outside in

-- the participant arrives there
abbrev pub due_arrival : ℕ → Option ℕ → Option Entry
due_arrival t None = None
due_arrival t (Some p) = Some (plainly kind.Arrive p t)

-- from a place that waits the participant withdraws where it is doomed; else it is started once all is there
abbrev pub due_waiting : Plan → List Entry → ℕ → ℕ → Option Entry
due_waiting plan past p t =
    if is_doomed plan past p then Some (plainly kind.Withdraw p t)
    else (if all_are_inside plan past p && objects_are_ready plan past p then Some (plainly kind.Start p t)
    else None)

-- the next object of a place that is undone is restored, and after the last the place ends
abbrev pub due_restore : Plan → List Entry → ℕ → ℕ → Option ℕ → Option Entry
due_restore plan past p t None = Some (marked kind.End p t (undone_mark past p) 0)
due_restore plan past p t (Some o) = Some (says kind.Restore p t o (value_of plan (before_start past p) o))

-- in a doomed place each role gives up once all are back in it, and after the last the place is undone
abbrev pub due_doomed : Plan → List Entry → ℕ → ℕ → Option Entry
due_doomed plan past p t =
    if has_aborted past p t then (if all_have_aborted plan past p then Some (plainly kind.Undo p t) else None)
    else (if all_are_inside plan past p then Some (naming kind.Abort p t (abort_of (abort_row plan p t) (register plan past p t)))
    else None)

-- the End of a signal
abbrev pub due_signal : ℕ → ℕ → Option ℕ → Option Entry
due_signal p t None = None
due_signal p t (Some x) = Some (marked kind.End p t (mark_of (outcome.Signal 0)) x)

-- the End of p by what its roles signalled: a commit if they signalled nothing, else a signal of the least cover
abbrev pub due_end : Plan → ℕ → ℕ → List ℕ → Option Entry
due_end plan p t [] = Some (plainly kind.End p t)
due_end plan p t (x ∷ xs) = due_signal p t (least_of (interface_of plan p) (x ∷ xs))

-- who has given its verdict ends the place once all have, or begins its undo where one asked for it
abbrev pub due_agreed : Plan → List Entry → ℕ → ℕ → Option Entry
due_agreed plan past p t =
    if not (all_have_given plan past p) then None
    else (if wants_undo plan past p then Some (plainly kind.Undo p t)
    else due_end plan p t (signals past p (roles_of plan p)))

-- a put waits until the place holds its object; the device answers it
abbrev pub due_held : Plan → List Entry → ℕ → ℕ → Entry → Option Entry
due_held plan past p o e = if same_option (holder_of plan past o) (Some p) then Some e else None

-- the participant makes its next step, and gives its verdict after the last; a step that raises or enters is no matter of here
abbrev pub due_step : Plan → List Entry → ℕ → ℕ → Option Step → Option Entry
due_step plan past p t None = Some (verdict_entry p t (program_of plan past p t).verdict)
due_step plan past p t (Some (step.Read o)) = due_held plan past p o (says kind.Read p t o (value_of plan past o))
due_step plan past p t (Some (step.Put o v)) = due_held plan past p o (says kind.Write p t o v)
due_step plan past p t (Some (step.Add o v)) =
    due_held plan past p o (says kind.Write p t o (clamped (register plan past p t +ℤ v)))
due_step plan past p t (Some (step.Work rounds)) = Some (says kind.Work p t rounds (mix (register plan past p t) rounds))
due_step plan past p t (Some (step.Check test bound x)) = Some (plainly kind.Check p t)
due_step plan past p t (Some (step.Raise x)) = None
due_step plan past p t (Some (step.Enter k)) = None

-- in its body it enters the next place of a nested use, too
abbrev pub due_forward : Plan → List Entry → ℕ → ℕ → Option Step → Option Entry
due_forward plan past p t (Some (step.Enter k)) = due_arrival t (place_entered plan past p t (Some (step.Enter k)))
due_forward plan past p t s = due_step plan past p t s

-- a step of the body that raises does so
abbrev pub due_body : Plan → List Entry → ℕ → ℕ → Option ℕ → Option Entry
due_body plan past p t (Some x) = Some (marked kind.Raise p t no_mark x)
due_body plan past p t None = due_forward plan past p t (next_step plan past p t)

-- a handler that is broken off asks for undo
abbrev pub due_handler : Plan → List Entry → ℕ → ℕ → Option Entry
due_handler plan past p t =
    if breaks_off plan past p t then Some (verdict_entry p t verdict.Undo) else due_step plan past p t (next_step plan past p t)

-- a role with a handler for x begins it; any other one asks for undo
abbrev pub due_answer : Plan → ℕ → ℕ → ℕ → Option Entry
due_answer plan p t x =
    if is_none (handler_of plan p t x) then Some (verdict_entry p t verdict.Undo) else Some (marked kind.Handle p t no_mark x)

-- in a place for which x is resolved: first the handlers, then what their verdicts come to
abbrev pub due_resolved : Plan → List Entry → ℕ → ℕ → ℕ → Option Entry
due_resolved plan past p t x =
    if has_given plan past p t then due_agreed plan past p t
    else (if has_handled past p t then due_handler plan past p t
    else due_answer plan p t x)

-- the Resolve of an exception
abbrev pub due_resolve : ℕ → ℕ → Option ℕ → Option Entry
due_resolve p t None = None
due_resolve p t (Some x) = Some (marked kind.Resolve p t no_mark x)

-- who is halted goes on once something is resolved; to begin with, all have to be halted, and then somebody resolves
abbrev pub due_halted : Plan → List Entry → ℕ → ℕ → Option ℕ → Option Entry
due_halted plan past p t (Some x) = due_resolved plan past p t x
due_halted plan past p t None =
    if all_are_halted plan past p then due_resolve p t (least_of (internal_of plan p) (exceptions_raised plan past p)) else None

-- who isn't halted raises what its next step raises, or is informed
abbrev pub due_running : ℕ → ℕ → Option ℕ → Option Entry
due_running p t (Some x) = Some (marked kind.Raise p t no_mark x)
due_running p t None = Some (plainly kind.Inform p t)

-- in a place where something was raised
abbrev pub due_hot : Plan → List Entry → ℕ → ℕ → Option Entry
due_hot plan past p t =
    if not (is_halted plan past p t) then due_running p t (next_raise plan past p t)
    else due_halted plan past p t (exception_resolved past p)

-- in a calm place the participant goes on until all have agreed
abbrev pub due_calm : Plan → List Entry → ℕ → ℕ → Option Entry
due_calm plan past p t =
    if has_given plan past p t then due_agreed plan past p t else due_body plan past p t (next_raise plan past p t)

-- in a place that has started and not ended
abbrev pub due_live : Plan → List Entry → ℕ → ℕ → Option Entry
due_live plan past p t =
    if is_undoing past p then due_restore plan past p t (next_restore plan past p)
    else (if is_doomed plan past p then due_doomed plan past p t
    else (if is_raised plan past p then due_hot plan past p t
    else due_calm plan past p t))

-- for a participant that is in p: after the End it leaves, before the Start it waits
abbrev pub due_inside : Plan → List Entry → ℕ → ℕ → Option Entry
due_inside plan past p t =
    if has_ended past p then Some (naming kind.Leave p t (exception_carried plan past p t))
    else (if has_started past p then due_live plan past p t
    else due_waiting plan past p t)

-- by where the participant is; who is nowhere arrives in its next play
abbrev pub due_at : Plan → List Entry → ℕ → Option ℕ → Option Entry
due_at plan past t None = due_arrival t (next_play plan past t)
due_at plan past t (Some p) = due_inside plan past p t

-- the entry that the rules give t, as if the device took each put
abbrev pub due_of : Plan → List Entry → ℕ → Option Entry
due_of plan past t = due_at plan past t (inside plan past t)

-- ---- that it is the right one

-- the entry, where the device refuses what it asks
abbrev pub as_refused : Kind → Entry → Entry
as_refused kind.Write e = record e { kind = kind.PutFault }
as_refused kind.Restore e = record e { mark = refused_mark }
as_refused _ e = e

-- what is computed for a participant is all that the rules let it do, as the device answers
pub record DueIsRight (plan : Plan) (past : List Entry) : Type 0 where
  -- what is computed may follow
  pub may : (t : ℕ) (e : Entry) → due_of plan past t ≡ Some e → MayFollow plan past e × (e.by ≡ t)
  -- and so may the device's other answer
  pub refused : (t : ℕ) (e : Entry) → due_of plan past t ≡ Some e → is_put e ≡ true → MayFollow plan past (as_refused e.kind e)
  -- and nothing else may
  pub only : (e : Entry) → MayFollow plan past e → due_of plan past e.by ≡ Some (as_taken e.kind e)
  -- who is over has no entry
  pub over_silent : (t : ℕ) → is_over plan past t ≡ true → HasNoEntry plan past t
