-- Whom and what a wait is for.
use Rattle.std.specs.Prelude.{ℕ, Bool, false, not, List}
use Rattle.caa_base.specs.declared.written.entry.Entry.{Entry}
use Rattle.caa_base.specs.Written.Lists.{same_option}
use Rattle.place_plan.specs.Plans.PlanValue.{Plan}
use Rattle.place_plan.specs.Plans.Places.{parent}
use Rattle.place_plan.specs.RulesOfJournals.Whereabouts.{is_inside}
use Rattle.place_plan.specs.RulesOfJournals.Raising.{is_halted}
use Rattle.place_plan.specs.RulesOfJournals.Objects.{holder_of}
use Rattle.place_plan.specs.RulesOfJournals.Roles.{has_given, has_aborted}
use Rattle.journal_replay.specs.declared.moves.Lack.{Lack}
use Rattle.journal_replay.specs.declared.moves.Lack.TheVariants as lack

-- the role t of p is awaited there: what is lacking is said of each role, and isn't so of t; objects are awaited of nobody
abbrev pub is_awaited : Plan → List Entry → ℕ → Lack → ℕ → Bool
is_awaited plan past p lack.Roles t = not (is_inside plan past p t)
is_awaited plan past p lack.Halts t = not (is_halted plan past p t)
is_awaited plan past p lack.Verdicts t = not (has_given plan past p t)
is_awaited plan past p lack.GiveUps t = not (has_aborted past p t)
is_awaited plan past p lack.Objects t = false
is_awaited plan past p (lack.Object o) t = false

-- the place round p, or nobody for a play, doesn't hold o
abbrev pub is_lacking : Plan → List Entry → ℕ → ℕ → Bool
is_lacking plan past p o = not (same_option (holder_of plan past o) (parent plan p))
