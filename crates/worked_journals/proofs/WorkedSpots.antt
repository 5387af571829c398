-- Where roles stand in worked journals, by computing: two places in which this isn't told by the leave of a nested use.
use Rattle.std.proofs.Common.{◌≡◌, ℕ, false, List, [], ◌∷◌, reverse, take, refl}
use Rattle.caa_base.specs.declared.written.entry.Entry.{Entry}
use Rattle.place_plan.specs.Plans.PlanValue.{Plan}
use Rattle.place_plan.specs.RulesOfJournals.Raising.{exceptions_raised, is_halted}
use Rattle.place_plan.specs.RulesOfJournals.Roles.{position}
use Rattle.interlock_laws.specs.Spots.{own_step, given_up, Spot, body_at, raised_at, quiet_at, handler_at, broken_at, spot_of, raised_by}
use Rattle.worked_journals.proofs.ThreeLevels as levels
use Rattle.worked_journals.proofs.RaisedAfterGivingUp as quiet
use Rattle.worked_journals.proofs.Alternates as turns
use Rattle.worked_journals.proofs.PutFailsInHandler as puts

-- where t stands in p after so many entries
abbrev spot_after : Plan → List Entry → ℕ → ℕ → ℕ → Spot
spot_after plan journal n p t = spot_of plan (reverse (take n journal)) p t

-- ---- three levels, of which bob's raise dooms two: ann names what is `universal` in the middle one as she gives up the innermost

-- she stands at the step that enters it until it ends, and from then on has raised that
pub enters : spot_after levels.plan levels.journal 12 1 levels.ann ≡ body_at 0 0
enters = refl

pub ended : spot_after levels.plan levels.journal 13 1 levels.ann ≡ raised_at (given_up 0) 0
ended = refl

-- her leave carries nothing into the middle place, which is doomed: nothing is raised there, and she isn't halted
pub left : spot_after levels.plan levels.journal 14 1 levels.ann ≡ raised_at (given_up 0) 0
left = refl

pub unheard : exceptions_raised levels.plan (reverse (take 14 levels.journal)) 1 ≡ []
unheard = refl

pub running : is_halted levels.plan (reverse (take 14 levels.journal)) 1 levels.ann ≡ false
running = refl

-- what she names as she gives up the middle one is heard
pub heard : spot_after levels.plan levels.journal 19 0 levels.ann ≡ raised_at (given_up 0) levels.bent
heard = refl

pub raised_once : raised_by levels.plan (reverse (take 19 levels.journal)) 0 levels.ann ≡ levels.bent ∷ []
raised_once = refl

-- both roles stand in their handlers from the resolve on, before either has begun
pub resolved : spot_after levels.plan levels.journal 20 0 levels.bob ≡ handler_at levels.big 0
resolved = refl

-- ---- a use that is given up, where ann names nothing

-- she is at the step behind it, and hasn't raised anything, though something is raised: so she may still raise by it
pub quietly : spot_after quiet.plan quiet.journal 12 0 quiet.ann ≡ quiet_at 1
quietly = refl

pub at_raise : position quiet.plan (reverse (take 12 quiet.journal)) 0 quiet.ann ≡ 1
at_raise = refl

pub raises_still : spot_after quiet.plan quiet.journal 13 0 quiet.ann ≡ raised_at (own_step 1) quiet.gone
raises_still = refl

-- ---- a use with two actions: after the first, which is undone, ann is at the second, and after that behind the use

pub second : spot_after turns.plan turns.journal 9 0 turns.ann ≡ body_at 0 1
second = refl

pub behind_both : spot_after turns.plan turns.journal 16 0 turns.ann ≡ body_at 1 0
behind_both = refl

-- ---- a put that is refused in the body raises, and one in the handler breaks it off

pub refused : spot_after puts.plan puts.journal 5 0 puts.ann ≡ raised_at (own_step 2) puts.broken
refused = refl

pub before_handler : spot_after puts.plan puts.journal 6 0 puts.ann ≡ handler_at puts.broken 0
before_handler = refl

pub broken_off : spot_after puts.plan puts.journal 8 0 puts.ann ≡ broken_at puts.broken
broken_off = refl
