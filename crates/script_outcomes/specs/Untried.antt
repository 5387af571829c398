-- Behind which actions the outlooks of a script say that no alternate is tried.
use Rattle.std.specs.Prelude.{◌≡◌, ℕ, ◌<◌, Bool, true, false, List, map, slice_index_or, Some}
use Rattle.caa_base.specs.declared.written.entry.Entry.{Entry}
use Rattle.caa_base.specs.declared.written.entry.Kind.TheVariants as kind
use Rattle.place_plan.specs.Plans.PlanValue.{Plan}
use Rattle.place_plan.specs.Plans.Places.{child}
use Rattle.place_plan.specs.RulesOfJournals.Entries.{has}
use Rattle.journal_laws.specs.Laws.{Holds}
use Rattle.reach_laws.specs.Reach.{action_number}
use Rattle.script_outcomes.specs.Endings.{ends_undone}
use Rattle.script_outcomes.specs.declared.outlooks.Outlook.{Outlook}

-- where an alternate of a nested use, as its first, is an instance of the action a, nobody comes to a later one
abbrev pub LeavesUntried : ℕ → Plan → List Entry → Type 0
LeavesUntried a plan past =
    (p k i j c d : ℕ) → i < j → child plan p k i ≡ Some c → child plan p k j ≡ Some d → action_number plan c ≡ a
    → ¬ (has kind.Arrive past d ≡ true)

-- nor in any legal journal of the plan
abbrev pub NeverTriedBehind : Plan → ℕ → Type 0
NeverTriedBehind plan a = Holds (LeavesUntried a) plan

-- of a list, whether each action can end undone: nothing is tried behind one that can't; past the end of the list nothing rules it out
abbrev pub ListUntried : Plan → List Bool → Type 0
ListUntried plan undone = (a : ℕ) → slice_index_or undone a true ≡ false → NeverTriedBehind plan a

-- behind what they say can't end undone no alternate is ever tried, whatever the order and the device
abbrev pub TellsUntried : Plan → List Outlook → Type 0
TellsUntried plan outlooks = ListUntried plan (map ends_undone outlooks)
