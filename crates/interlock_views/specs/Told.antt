-- What a view of rules tells.
use Rattle.std.specs.Prelude.{◌≡◌, Bool, true, false, not, List, [], ◌∷◌, is_some}
use Rattle.std.specs.List.{All, list_any}
use Rattle.caa_base.specs.declared.written.entry.Entry.{Entry}
use Rattle.place_plan.specs.Plans.PlanValue.{Plan}
use Rattle.interlock_views.specs.Broken.{IsJudgedRule}
use Rattle.interlock_views.specs.Hunts.{IsHunt}
use Rattle.interlock_views.specs.declared.asking.RulesTold.{RulesTold}
use Rattle.interlock_views.specs.declared.asking.RulesTold.TheVariants as told
use Rattle.interlock_views.specs.declared.found.JudgedRule.{JudgedRule}
use Rattle.interlock_views.specs.declared.reading.RuleLine.{RuleLine}

-- something stands in a list
abbrev pub has_some : {T : Type 0} → List T → Bool
has_some [] = false
has_some (x ∷ xs) = true

-- a journal breaks the rule
abbrev pub is_broken : JudgedRule → Bool
is_broken judged = is_some judged.broken

-- a rule is broken
abbrev pub is_bad : RulesTold → Bool
is_bad (told.Hunted text hunt) = has_some hunt.found.items
is_bad (told.Judged text judged) = list_any is_broken judged.items
is_bad (told.Refused why) = false

-- a hunt over a plan is told, over the rules that were read; or why none were
abbrev pub TellsHunt : Plan → RulesTold → Type 0
TellsHunt plan (told.Hunted text hunt) = (hunt.plan ≡ plan) × ((rules : List RuleLine) × IsHunt rules hunt)
TellsHunt plan (told.Judged text judged) = ⊥
TellsHunt plan (told.Refused why) = Unit

-- where a journal breaks each rule that was read, if it does; or why none were
abbrev pub TellsJudged : Plan → List Entry → RulesTold → Type 0
TellsJudged plan journal (told.Hunted text hunt) = ⊥
TellsJudged plan journal (told.Judged text judged) = All (IsJudgedRule plan journal) judged.items
TellsJudged plan journal (told.Refused why) = Unit
