-- How far a role has come in a place, and what it has said there.
use Rattle.std.specs.Prelude.{ℕ, ℤ, pos, ◌==◌, Bool, true, false, not, ◌&&◌, ◌||◌, if◌then◌else◌, List, [], ◌∷◌, ◌++◌, Option, Some, None, zero, suc, int_lt, slice_get}
use Rattle.std.specs.List.{list_any, list_all}
use Rattle.caa_base.specs.declared.written.entry.Entry.{Entry}
use Rattle.caa_base.specs.declared.written.entry.Kind.{Kind}
use Rattle.caa_base.specs.declared.written.entry.Kind.TheVariants as kind
use Rattle.caa_base.specs.declared.written.entry.Test.{Test}
use Rattle.caa_base.specs.declared.written.entry.Test.TheVariants.{Below, Above, Equal}
use Rattle.caa_base.specs.declared.written.entry.Verdict.{Verdict}
use Rattle.caa_base.specs.declared.written.entry.Verdict.TheVariants as verdict
use Rattle.caa_base.specs.Written.Marks.{verdict_of_mark}
use Rattle.place_plan.specs.declared.drafts.draft_rows.Program.{Program}
use Rattle.place_plan.specs.declared.drafts.draft_rows.Step.{Step}
use Rattle.place_plan.specs.declared.drafts.draft_rows.Step.TheVariants as step
use Rattle.place_plan.specs.Plans.PlanValue.{Plan}
use Rattle.caa_base.specs.Written.Lists.{is_at, first_not, last_of}
use Rattle.place_plan.specs.Plans.Places.{idle, parent, roles_of, body_of, handler_of, plays_of}
use Rattle.place_plan.specs.RulesOfJournals.Entries.{is_in, is_by, has, has_by}
use Rattle.place_plan.specs.RulesOfJournals.Whereabouts.{all_are_inside, is_left_in_silence}
use Rattle.place_plan.specs.RulesOfJournals.Raising.{exception_handled, is_raised, is_calm, is_hot, all_are_halted}

-- ---- steps

-- a step of its maker in p, where `past` stands before it; coming back from a nested use is one, but not a leave in silence
abbrev pub advances : Plan → List Entry → ℕ → Entry → Kind → Bool
advances plan past p e kind.Read = e.place == p
advances plan past p e kind.Work = e.place == p
advances plan past p e kind.Write = e.place == p
advances plan past p e kind.Check = e.place == p
advances plan past p e kind.Leave = is_at (parent plan e.place) p && not (is_left_in_silence plan past e.place)
advances plan past p e _ = false

-- how many steps t has made in p, since its Handle there where it has one
abbrev pub position : Plan → List Entry → ℕ → ℕ → ℕ
position plan [] p t = zero
position plan (e ∷ past) p t =
    if is_by kind.Handle p t e then zero
    else (if advances plan past p e e.kind && (e.by == t) then suc (position plan past p t)
    else position plan past p t)

-- the kinds of entry that give their maker's register its value
abbrev pub gives_value : Kind → Bool
gives_value kind.Read = true
gives_value kind.Work = true
gives_value kind.Write = true
gives_value _ = false

-- what t read, mixed or wrote last in p, since its Handle there where it has one; else 0
abbrev pub register : Plan → List Entry → ℕ → ℕ → ℤ
register plan [] p t = pos 0
register plan (e ∷ past) p t =
    if is_by kind.Handle p t e then pos 0
    else (if gives_value e.kind && ((e.place == p) && (e.by == t)) then e.value
    else register plan past p t)

-- the program, or the empty one where there is none
abbrev pub or_idle : Option Program → Program
or_idle None = idle
or_idle (Some program) = program

-- the body of t, or its handler for the exception that it handles
abbrev pub program_in : Plan → ℕ → ℕ → Option ℕ → Program
program_in plan p t None = body_of plan p t
program_in plan p t (Some x) = or_idle (handler_of plan p t x)

-- the program that t goes through in p
abbrev pub program_of : Plan → List Entry → ℕ → ℕ → Program
program_of plan past p t = program_in plan p t (exception_handled past p t)

-- what t does next in p; nothing at the end of its program
abbrev pub next_step : Plan → List Entry → ℕ → ℕ → Option Step
next_step plan past p t = slice_get (program_of plan past p t).steps (position plan past p t)

-- the numbers are one
abbrev pub int_same : ℤ → ℤ → Bool
int_same a b = not (int_lt a b) && not (int_lt b a)

-- x is below, above or equal to the bound
abbrev pub meets : Test → ℤ → ℤ → Bool
meets Below bound x = int_lt x bound
meets Above bound x = int_lt bound x
meets Equal bound x = int_same x bound

-- the exception that a step raises at this register
abbrev pub raise_of : Option Step → ℤ → Option ℕ
raise_of (Some (step.Raise x)) r = Some x
raise_of (Some (step.Check test bound x)) r = if meets test bound r then Some x else None
raise_of _ r = None

-- what t raises in p by its next step
abbrev pub next_raise : Plan → List Entry → ℕ → ℕ → Option ℕ
next_raise plan past p t = raise_of (next_step plan past p t) (register plan past p t)

-- ---- verdicts

-- t has given a verdict in p since p was resolved
abbrev pub has_given_after : List Entry → ℕ → ℕ → Bool
has_given_after [] p t = false
has_given_after (e ∷ past) p t =
    if is_in kind.Resolve p e then false
    else (if is_by kind.Verdict p t e then has kind.Resolve past p else has_given_after past p t)

-- t has said its verdict in p; once something is raised there, only what it says after the resolution counts
abbrev pub has_given : Plan → List Entry → ℕ → ℕ → Bool
has_given plan past p t = if is_raised plan past p then has_given_after past p t else has_by kind.Verdict past p t

-- each role of p has given its verdict
abbrev pub all_have_given : Plan → List Entry → ℕ → Bool
all_have_given plan past p = list_all (has_given plan past p) (roles_of plan p)

-- t has a Handle in p, and no verdict after it
abbrev pub is_handling : List Entry → ℕ → ℕ → Bool
is_handling [] p t = false
is_handling (e ∷ past) p t =
    if is_by kind.Handle p t e then true
    else (if is_by kind.Verdict p t e then false else is_handling past p t)

-- a put of t was refused after its Handle in p
abbrev pub was_refused_in_handler : List Entry → ℕ → ℕ → Bool
was_refused_in_handler [] p t = false
was_refused_in_handler (e ∷ past) p t =
    if is_by kind.Handle p t e then false
    else (if is_by kind.PutFault p t e then has_by kind.Handle past p t else was_refused_in_handler past p t)

-- t goes through its handler: after its Handle in p it has neither a verdict nor a refused put there
abbrev pub is_in_handler : List Entry → ℕ → ℕ → Bool
is_in_handler past p t = is_handling past p t && not (was_refused_in_handler past p t)

-- t may make a step in p
abbrev pub is_able : Plan → List Entry → ℕ → ℕ → Bool
is_able plan past p t = (is_calm plan past p && not (has_given plan past p t)) || (is_hot plan past p && is_in_handler past p t)

-- the verdict that an entry says
abbrev pub verdict_at : Entry → Verdict
verdict_at e = verdict_of_mark e.mark e.arg

-- the verdict that t gave last in p
abbrev pub verdict_of : List Entry → ℕ → ℕ → Option Verdict
verdict_of [] p t = None
verdict_of (e ∷ past) p t = if is_by kind.Verdict p t e then Some (verdict_at e) else verdict_of past p t

-- the verdict is undo
abbrev pub is_undo : Option Verdict → Bool
is_undo (Some verdict.Undo) = true
is_undo _ = false

-- a role of p asks for undo
abbrev pub wants_undo : Plan → List Entry → ℕ → Bool
wants_undo plan past p = list_any (λ t. is_undo (verdict_of past p t)) (roles_of plan p)

-- the exception that a verdict signals
abbrev pub signal_in : Option Verdict → List ℕ
signal_in (Some (verdict.Signal x)) = x ∷ []
signal_in _ = []

-- the exceptions that these roles signal in p
abbrev pub signals : List Entry → ℕ → List ℕ → List ℕ
signals past p [] = []
signals past p (t ∷ ts) = signal_in (verdict_of past p t) ++ signals past p ts

-- t has given up in p
abbrev pub has_aborted : List Entry → ℕ → ℕ → Bool
has_aborted past p t = has_by kind.Abort past p t

-- each role of p has given up
abbrev pub all_have_aborted : Plan → List Entry → ℕ → Bool
all_have_aborted plan past p = list_all (has_aborted past p) (roles_of plan p)

-- ---- all together

-- an entry of this kind in p, the newest of the past, gathers the roles of p: with it each of them is in p, was halted there, has given
-- its verdict, or has given up; the roles of p wait for each other with no other kind, so any entry of those does
abbrev pub gathers : Plan → List Entry → ℕ → Kind → Bool
gathers plan past p kind.Arrive = all_are_inside plan past p
gathers plan past p kind.Inform = all_are_halted plan past p
gathers plan past p kind.Verdict = all_have_given plan past p
gathers plan past p kind.Abort = all_have_aborted plan past p
gathers plan past p _ = true

-- ---- plays

-- the first play of t in which it has not arrived
abbrev pub next_play : Plan → List Entry → ℕ → Option ℕ
next_play plan past t = first_not (λ p. has_by kind.Arrive past p t) (plays_of plan t)

-- t has left the play, where there is one
abbrev pub is_over_after : List Entry → ℕ → Option ℕ → Bool
is_over_after past t None = true
is_over_after past t (Some p) = has_by kind.Leave past p t

-- t is through with all its plays
abbrev pub is_over : Plan → List Entry → ℕ → Bool
is_over plan past t = is_over_after past t (last_of (plays_of plan t))
