-- Where participants are, and how far places have come. A past is a list of entries, the newest first.
use Rattle.std.specs.Prelude.{ℕ, ◌==◌, Bool, true, false, not, ◌&&◌, if◌then◌else◌, List, [], ◌∷◌, Option, Some, None, is_none}
use Rattle.std.specs.List.{list_all}
use Rattle.caa_base.specs.declared.written.entry.Entry.{Entry}
use Rattle.caa_base.specs.declared.written.entry.Kind.{Kind}
use Rattle.caa_base.specs.declared.written.entry.Kind.TheVariants as kind
use Rattle.caa_base.specs.declared.written.entry.Outcome.{Outcome}
use Rattle.caa_base.specs.declared.written.entry.Outcome.TheVariants as outcome
use Rattle.caa_base.specs.Written.Marks.{outcome_of_mark, mark_of}
use Rattle.place_plan.specs.Plans.PlanValue.{Plan}
use Rattle.caa_base.specs.Written.Lists.{is_at}
use Rattle.place_plan.specs.Plans.Places.{parent, roles_of, next_alternate}
use Rattle.place_plan.specs.RulesOfJournals.Entries.{has, is_in, newest}

-- ---- participants

-- an arrival leads into its place, and a withdrawal or a leave out into the place round it; `own` says that t made the entry
abbrev pub inside_after : Plan → Kind → ℕ → Bool → Option ℕ → Option ℕ
inside_after plan kind.Arrive p own was = if own then Some p else was
inside_after plan kind.Withdraw p own was = if own then parent plan p else was
inside_after plan kind.Leave p own was = if own then parent plan p else was
inside_after plan _ p own was = was

-- the innermost of the places where t has arrived and from which it has since neither withdrawn nor gone out; none where it is in
-- no place
abbrev pub inside : Plan → List Entry → ℕ → Option ℕ
inside plan [] t = None
inside plan (e ∷ past) t = inside_after plan e.kind e.place (e.by == t) (inside plan past t)

-- p is the innermost place that t is in
abbrev pub is_inside : Plan → List Entry → ℕ → ℕ → Bool
is_inside plan past p t = is_at (inside plan past t) p

-- each role of p is in p, and in no place inside it
abbrev pub all_are_inside : Plan → List Entry → ℕ → Bool
all_are_inside plan past p = list_all (is_inside plan past p) (roles_of plan p)

-- whether t stays in p after such an entry of its own there
abbrev pub stays_after : Kind → Bool → Bool
stays_after kind.Arrive was = true
stays_after kind.Withdraw was = false
stays_after kind.Leave was = false
stays_after _ was = was

-- t has arrived in p, and since then has neither withdrawn from it nor left it
abbrev pub stays : List Entry → ℕ → ℕ → Bool
stays [] p t = false
stays (e ∷ past) p t = if (e.place == p) && (e.by == t) then stays_after e.kind (stays past p t) else stays past p t

-- ---- places

-- p has a Start
abbrev pub has_started : List Entry → ℕ → Bool
has_started past p = has kind.Start past p

-- p has an End
abbrev pub has_ended : List Entry → ℕ → Bool
has_ended past p = has kind.End past p

-- p has an Undo: it goes on with its restores, or has ended after them
abbrev pub is_undoing : List Entry → ℕ → Bool
is_undoing past p = has kind.Undo past p

-- the outcome that an End says
abbrev pub outcome_at : Entry → Outcome
outcome_at e = outcome_of_mark e.mark e.arg

-- the entry is the End of an undo that went well
abbrev pub is_undone : Option Entry → Bool
is_undone None = false
is_undone (Some e) = e.mark == mark_of outcome.Undone

-- p was undone, but another alternate is left to be tried: nothing is said of p, and its roles go there
abbrev pub is_left_in_silence : Plan → List Entry → ℕ → Bool
is_left_in_silence plan past p = is_undone (newest (is_in kind.End p) past) && not (is_none (next_alternate plan p))

-- p has started and not ended
abbrev pub is_live : List Entry → ℕ → Bool
is_live past p = has_started past p && not (has_ended past p)

-- p is live and not undoing
abbrev pub is_going : List Entry → ℕ → Bool
is_going past p = is_live past p && not (is_undoing past p)
