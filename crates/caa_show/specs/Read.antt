-- What is read of the text of a journal.
use Rattle.place_plan.specs.Plans.PlanValue.{Plan}
use Rattle.place_plan.specs.RulesOfJournals.WellFormed.{AllWellFormed}
use Rattle.journal_text.specs.Watching.Looks.{AreOfPlan}
use Rattle.caa_show.specs.declared.reading.Reading.{Reading}
use Rattle.caa_show.specs.declared.reading.Reading.TheVariants as reading

-- the entries that were read are well formed, and the looks are those of watches of the plan
abbrev pub IsOfPlan : Plan → Reading → Type 0
IsOfPlan plan (reading.Whole journal seens) = AllWellFormed plan journal.entries × AreOfPlan plan seens.seens
IsOfPlan plan (reading.Cut journal way) = AllWellFormed plan journal.entries
IsOfPlan plan (reading.Refused why) = Unit {0}
