-- What no place of an action ever resolves, whatever the order of the entries and the answers of the device.
use Rattle.std.specs.Prelude.{◌≡◌, ℕ, true, List, [], slice_index_or, Some}
use Rattle.caa_base.specs.declared.written.entry.Entry.{Entry}
use Rattle.place_plan.specs.Plans.PlanValue.{Plan}
use Rattle.caa_base.specs.Written.Lists.{member}
use Rattle.place_plan.specs.RulesOfJournals.Raising.{exception_resolved}
use Rattle.journal_laws.specs.Laws.{Holds}
use Rattle.reach_laws.specs.Reach.{action_number}

-- no place of the action a is resolved to x
abbrev pub LeavesUnresolved : ℕ → ℕ → Plan → List Entry → Type 0
LeavesUnresolved a x plan past = (p : ℕ) → action_number plan p ≡ a → ¬ (exception_resolved past p ≡ Some x)

-- nor in any legal journal of the plan
abbrev pub NeverResolved : Plan → ℕ → ℕ → Type 0
NeverResolved plan a x = Holds (LeavesUnresolved a x) plan

-- of lists, one for each action, whatever stands in one is never resolved in a place of its action
abbrev pub ListNever : Plan → List (List ℕ) → Type 0
ListNever plan lists = (a x : ℕ) → member x (slice_index_or lists a []) ≡ true → NeverResolved plan a x
