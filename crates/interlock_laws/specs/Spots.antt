-- Where a role stands in a place, told from the entries alone. Two things are counted earlier here than by the position: a role is back
-- from a nested use as soon as that ends, and it is in its handler as soon as the place is resolved.
use Rattle.std.specs.Prelude.{ℕ, ◌==◌, Bool, true, ◌&&◌, if◌then◌else◌, List, [], ◌∷◌, ◌++◌, Option, Some, None, is_none, suc}
use Rattle.caa_base.specs.declared.written.entry.Entry.{Entry}
use Rattle.caa_base.specs.declared.written.entry.Kind.{Kind}
use Rattle.caa_base.specs.declared.written.entry.Kind.TheVariants as kind
use Rattle.caa_base.specs.declared.written.entry.Outcome.{Outcome}
use Rattle.caa_base.specs.declared.written.entry.Outcome.TheVariants as outcome
use Rattle.caa_base.specs.Written.Lists.{member, is_at}
use Rattle.place_plan.specs.declared.drafts.draft_rows.Program.{Program}
use Rattle.place_plan.specs.Plans.PlanValue.{Plan}
use Rattle.place_plan.specs.Plans.Places.{parent, roles_of, next_alternate, handler_of, fault_of, nest_of, map_signal}
use Rattle.place_plan.specs.RulesOfJournals.Entries.{is_by, newest}
use Rattle.place_plan.specs.RulesOfJournals.Whereabouts.{outcome_at}
use Rattle.place_plan.specs.RulesOfJournals.Raising.{raises_in}
use Rattle.place_plan.specs.RulesOfJournals.Roles.{verdict_at, is_undo}
use Rattle.place_plan.specs.RulesOfJournals.Rules.{abort_mapped}

-- ---- spots

-- what brought a role to raise an exception, by the number of the step of its body
pub data Cause : Type 0 where
  -- the step itself: a raise, a check that was met, or a put that was refused
  own_step : ℕ → Cause
  -- the use that the step enters, which ended so
  whole_use : ℕ → Cause
  -- that use, which was given up: the role named an exception there
  given_up : ℕ → Cause

-- where a role stands in a place
pub data Spot : Type 0 where
  -- at the step i of its body, or behind the last; where the step enters a use, at the alternate j, counted from 0
  body_at : ℕ → ℕ → Spot
  -- it has raised this exception, so its body goes no further
  raised_at : Cause → ℕ → Spot
  -- it has come out of a use that was given up, having named nothing, and is at this step: it may raise by it, and do nothing else
  quiet_at : ℕ → Spot
  -- the place is resolved to x: at the step i of its handler, or behind the last
  handler_at : ℕ → ℕ → Spot
  -- the place is resolved to x, for which the role has no handler, or one that was broken off or asked for an undo
  broken_at : ℕ → Spot

-- ---- what an entry makes of a spot

-- one step further
abbrev pub stepped : Spot → Spot
stepped (body_at i j) = body_at (suc i) 0
stepped (handler_at x i) = handler_at x (suc i)
stepped was = was

-- the role raises y by its step
abbrev pub raising : ℕ → Spot → Spot
raising y (body_at i j) = raised_at (own_step i) y
raising y (quiet_at i) = raised_at (own_step i) y
raising y was = was

-- a put of the role is refused, which raises y in a body and breaks off a handler
abbrev pub refused : ℕ → Spot → Spot
refused y (body_at i j) = raised_at (own_step i) y
refused y (handler_at x i) = broken_at x
refused y was = was

-- the role gives a verdict; an undo that a handler asks for breaks it off
abbrev pub said : Bool → Spot → Spot
said true (handler_at x i) = broken_at x
said undo was = was

-- the place is resolved to x, for which the role has this handler, or none
abbrev pub resolved_to : ℕ → Option Program → Spot
resolved_to x None = broken_at x
resolved_to x (Some program) = handler_at x 0

-- the use that the step i enters was given up, and this is what the exception that the role named is in the place round it
abbrev pub out_of_abort : ℕ → Option ℕ → Spot
out_of_abort i None = quiet_at (suc i)
out_of_abort i (Some y) = raised_at (given_up i) y

-- the alternate j of the use that the step i enters, the place c, ended so; `abort` is the entry by which the role gave up there
abbrev pub out_of : Plan → ℕ → Option Entry → ℕ → ℕ → Outcome → Spot
out_of plan c abort i j outcome.Commit = body_at (suc i) 0
out_of plan c abort i j (outcome.Signal x) = raised_at (whole_use i) (map_signal plan c x)
out_of plan c abort i j outcome.Undone =
    if is_none (next_alternate plan c) then raised_at (whole_use i) (nest_of plan c).undo else body_at i (suc j)
out_of plan c abort i j outcome.Aborted = out_of_abort i (abort_mapped plan c abort)
out_of plan c abort i j outcome.Failed = raised_at (whole_use i) (nest_of plan c).failure

-- the role is back from there
abbrev pub back_from : Plan → ℕ → Option Entry → Outcome → Spot → Spot
back_from plan c abort how (body_at i j) = out_of plan c abort i j how
back_from plan c abort how was = was

-- what an entry of this kind, with `past` before it, makes of the spot of t in p
abbrev pub spot_after : Plan → List Entry → ℕ → ℕ → Entry → Kind → Spot → Spot
spot_after plan past p t e kind.Read was = if (e.place == p) && (e.by == t) then stepped was else was
spot_after plan past p t e kind.Work was = if (e.place == p) && (e.by == t) then stepped was else was
spot_after plan past p t e kind.Write was = if (e.place == p) && (e.by == t) then stepped was else was
spot_after plan past p t e kind.Check was = if (e.place == p) && (e.by == t) then stepped was else was
spot_after plan past p t e kind.PutFault was = if (e.place == p) && (e.by == t) then refused (fault_of plan p) was else was
spot_after plan past p t e kind.Raise was = if (e.place == p) && (e.by == t) then raising e.arg was else was
spot_after plan past p t e kind.Resolve was = if e.place == p then resolved_to e.arg (handler_of plan p t e.arg) else was
spot_after plan past p t e kind.Verdict was = if (e.place == p) && (e.by == t) then said (is_undo (Some (verdict_at e))) was else was
spot_after plan past p t e kind.End was =
    if is_at (parent plan e.place) p && member t (roles_of plan e.place)
    then back_from plan e.place (newest (is_by kind.Abort e.place t) past) (outcome_at e) was
    else was
spot_after plan past p t e _ was = was

-- where t stands in p
abbrev pub spot_of : Plan → List Entry → ℕ → ℕ → Spot
spot_of plan [] p t = body_at 0 0
spot_of plan (e ∷ past) p t = spot_after plan past p t e e.kind (spot_of plan past p t)

-- ---- what a spot says

-- how many steps of its body the role has behind it, as long as the place isn't resolved; a use counts once the role is back from it
abbrev pub behind : Spot → ℕ
behind (body_at i j) = i
behind (raised_at (own_step i) y) = i
behind (raised_at (whole_use i) y) = suc i
behind (raised_at (given_up i) y) = suc i
behind (quiet_at i) = i
behind (handler_at x i) = 0
behind (broken_at x) = 0

-- what the role has raised, as long as the place isn't resolved
abbrev pub told : Spot → List ℕ
told (raised_at cause y) = y ∷ []
told was = []

-- what t has raised in p, the newest first
abbrev pub raised_by : Plan → List Entry → ℕ → ℕ → List ℕ
raised_by plan [] p t = []
raised_by plan (e ∷ past) p t = (if e.by == t then raises_in plan past p e e.kind else []) ++ raised_by plan past p t
