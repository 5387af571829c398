-- What the rules ask of a past, put together from what is kept of it.
use Rattle.std.specs.Prelude.{ℕ, Bool, true, false, Option, Some, None}
use Rattle.caa_base.specs.declared.written.entry.Entry.{Entry}
use Rattle.caa_base.specs.declared.written.entry.Outcome.{Outcome}
use Rattle.caa_base.specs.declared.written.entry.Outcome.TheVariants as outcome
use Rattle.place_plan.specs.Plans.PlanValue.{Plan}
use Rattle.place_plan.specs.Plans.Places.{map_signal}
use Rattle.place_plan.specs.RulesOfJournals.Rules.{mapped_by_outcome}

-- the outcome says that all was undone
abbrev pub tells_undone : Option Outcome → Bool
tells_undone (Some outcome.Undone) = true
tells_undone _ = false

-- what the exception that an abort names is in the place round p
abbrev pub name_mapped : Plan → ℕ → Option ℕ → Option ℕ
name_mapped plan p None = None
name_mapped plan p (Some x) = Some (map_signal plan p x)

-- what an outcome of p means in the place round it, where there is one
abbrev pub mapped_if_ended : Plan → ℕ → Option Entry → Option Outcome → Option ℕ
mapped_if_ended plan p abort None = None
mapped_if_ended plan p abort (Some o) = mapped_by_outcome plan p abort o
