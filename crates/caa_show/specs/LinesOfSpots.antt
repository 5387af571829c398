-- At which line of its script a participant stands.
use Rattle.std.specs.Prelude.{ℕ, Option, None, Some}
use Rattle.place_plan.specs.Plans.PlanValue.{Plan}
use Rattle.place_plan.specs.Plans.Places.{place_at, role_of}
use Rattle.journal_states.specs.declared.spots.Phase.{Phase}
use Rattle.journal_states.specs.declared.spots.Phase.TheVariants as phase
use Rattle.journal_states.specs.declared.spots.Spot.{Spot}
use Rattle.script_checker.specs.LinesOfPlan.{line_after, program_at}
use Rattle.script_checker.specs.declared.lines.ProgramLines.{ProgramLines}
use Rattle.script_checker.specs.declared.lines.Lines.{Lines}

-- the line of a role that has come so far in what it goes through: before the start of its place that where this begins, and then that
-- of its next step, or the last where it is through; none once the place is undone or has ended
abbrev pub line_by : Phase → ProgramLines → ℕ → Option ℕ
line_by phase.Arrived program made = Some program.first
line_by phase.Body program made = Some (line_after program made)
line_by phase.Handler program made = Some (line_after program made)
line_by phase.Undoing program made = None
line_by phase.Ended program made = None

-- where a role stands that goes through this
abbrev pub line_in : Option ProgramLines → Spot → Option ℕ
line_in None spot = None
line_in (Some program) spot = line_by spot.phase program spot.step

-- where the role of this number stands
abbrev pub line_for : Lines → Plan → Spot → Option ℕ → Option ℕ
line_for lines plan spot None = None
line_for lines plan spot (Some role) = line_in (program_at lines (place_at plan spot.place).action role spot.handled) spot

-- where t stands
abbrev pub line_of : Lines → Plan → ℕ → Spot → Option ℕ
line_of lines plan t spot = line_for lines plan spot (role_of plan spot.place t)
