-- What was raised in a place, whom it halts, and which places it dooms.
use Rattle.std.specs.Prelude.{ℕ, ◌==◌, Bool, false, not, ◌&&◌, ◌||◌, if◌then◌else◌, List, [], ◌∷◌, ◌++◌, Option, Some, None}
use Rattle.std.specs.List.{list_any, list_all}
use Rattle.caa_base.specs.Written.Marks.{naming_mark}
use Rattle.caa_base.specs.declared.written.entry.Entry.{Entry}
use Rattle.caa_base.specs.declared.written.entry.Kind.{Kind}
use Rattle.caa_base.specs.declared.written.entry.Kind.TheVariants as kind
use Rattle.place_plan.specs.Plans.PlanValue.{Plan}
use Rattle.caa_base.specs.Written.Lists.{is_at, is_empty}
use Rattle.place_plan.specs.Plans.Places.{around, parent, roles_of, fault_of}
use Rattle.place_plan.specs.RulesOfJournals.Entries.{is_in, is_by, has_by}
use Rattle.place_plan.specs.RulesOfJournals.Whereabouts.{is_going}

-- t has begun its handler in p
abbrev pub has_handled : List Entry → ℕ → ℕ → Bool
has_handled past p t = has_by kind.Handle past p t

-- a leave that carries an exception into p
abbrev pub carries_into : Plan → ℕ → Entry → Bool
carries_into plan p e = is_at (parent plan e.place) p && (e.mark == naming_mark)

-- what an entry raises in p, where `past` stands before it: a raise its exception, a put that was refused before its maker began
-- a handler there the fault exception of the action, and the leave of a place right inside p the exception that it carries
abbrev pub raises_in : Plan → List Entry → ℕ → Entry → Kind → List ℕ
raises_in plan past p e kind.Raise = if e.place == p then e.arg ∷ [] else []
raises_in plan past p e kind.PutFault = if (e.place == p) && not (has_handled past p e.by) then fault_of plan p ∷ [] else []
raises_in plan past p e kind.Leave = if carries_into plan p e then e.arg ∷ [] else []
raises_in plan past p e _ = []

-- all that was raised in p, the newest first
abbrev pub exceptions_raised : Plan → List Entry → ℕ → List ℕ
exceptions_raised plan [] p = []
exceptions_raised plan (e ∷ past) p = raises_in plan past p e e.kind ++ exceptions_raised plan past p

-- something was raised in p
abbrev pub is_raised : Plan → List Entry → ℕ → Bool
is_raised plan past p = not (is_empty (exceptions_raised plan past p))

-- something was raised in a place round p
abbrev pub is_doomed : Plan → List Entry → ℕ → Bool
is_doomed plan past p = list_any (λ q. is_raised plan past q) (around plan p)

-- p goes on, and nothing was raised in it or round it
abbrev pub is_calm : Plan → List Entry → ℕ → Bool
is_calm plan past p = is_going past p && (not (is_doomed plan past p) && not (is_raised plan past p))

-- p goes on, nothing was raised round it, and something in it
abbrev pub is_hot : Plan → List Entry → ℕ → Bool
is_hot plan past p = is_going past p && (not (is_doomed plan past p) && is_raised plan past p)

-- the entry halts the body of its maker in p: a raise, an inform, a put that was refused before its maker began a handler there,
-- or the leave of a place right inside p that carries an exception
abbrev pub halts_in : Plan → List Entry → ℕ → Entry → Kind → Bool
halts_in plan past p e kind.Raise = e.place == p
halts_in plan past p e kind.Inform = e.place == p
halts_in plan past p e kind.PutFault = (e.place == p) && not (has_handled past p e.by)
halts_in plan past p e kind.Leave = carries_into plan p e
halts_in plan past p e _ = false

-- t was halted in p
abbrev pub is_halted : Plan → List Entry → ℕ → ℕ → Bool
is_halted plan [] p t = false
is_halted plan (e ∷ past) p t = (halts_in plan past p e e.kind && (e.by == t)) || is_halted plan past p t

-- each role of p was halted
abbrev pub all_are_halted : Plan → List Entry → ℕ → Bool
all_are_halted plan past p = list_all (is_halted plan past p) (roles_of plan p)

-- the exception of the newest entry that passes a test
abbrev pub newest_arg : (Entry → Bool) → List Entry → Option ℕ
newest_arg test [] = None
newest_arg test (e ∷ past) = if test e then Some e.arg else newest_arg test past

-- the exception to which p is resolved
abbrev pub exception_resolved : List Entry → ℕ → Option ℕ
exception_resolved past p = newest_arg (is_in kind.Resolve p) past

-- the exception that t handles in p
abbrev pub exception_handled : List Entry → ℕ → ℕ → Option ℕ
exception_handled past p t = newest_arg (is_by kind.Handle p t) past
