-- What a hunt for journals that break rules says. A past has its newest entry first, a journal its oldest.
use Rattle.std.specs.Prelude.{◌≡◌, ◌≤◌, ℕ, List, ◌++◌, length, map, reverse, IsPermutation}
use Rattle.std.specs.List.{All}
use Rattle.caa_base.specs.declared.written.entry.Entry.{Entry}
use Rattle.place_plan.specs.Plans.PlanValue.{Plan}
use Rattle.place_plan.specs.RulesOfJournals.Journals.{IsLegal, IsComplete}
use Rattle.interlock_rules.specs.Interlocks.{IsInterlocked}
use Rattle.interlock_views.specs.Broken.{IsFound}
use Rattle.interlock_views.specs.declared.found.Found.{Found}
use Rattle.interlock_views.specs.declared.hunting.Hunt.{Hunt}
use Rattle.interlock_views.specs.declared.reading.RuleLine.{RuleLine}

-- a legal and complete journal
pub record IsPlay (plan : Plan) (journal : List Entry) : Type 0 where
  pub legal : IsLegal plan journal
  pub complete : IsComplete plan journal

-- the journal keeps the rule, or the device refused in it a put or a restore of an object that it is said to take
abbrev pub IsKept : List ℕ → Plan → RuleLine → List Entry → Type 0
IsKept taken plan line journal = IsInterlocked line.rule taken plan (reverse journal)

-- the rules of what was found broken
abbrev pub lines_of : List Found → List RuleLine
lines_of = map (λ it. it.line)

-- each of these journals keeps the rule, or the device refused in it what it is said to take
abbrev pub IsUnbroken : List ℕ → Plan → List (List Entry) → RuleLine → Type 0
IsUnbroken taken plan played line = All (IsKept taken plan line) played

-- what a hunt has found of these rules: as many journals as it says were played, or more; each rule is either unbroken, so all that were
-- played keep it, or found broken, so some legal and complete journal breaks it where it is told
pub record IsHunt (rules : List RuleLine) (hunt : Hunt) : Type 0 where
  pub played : List (List Entry)
  pub plays : hunt.plays ≤ length played
  pub legal : All (IsPlay hunt.plan) played
  pub rules_are : IsPermutation rules (hunt.unbroken.items ++ lines_of hunt.found.items)
  pub unbroken : All (IsUnbroken hunt.taken.items hunt.plan played) hunt.unbroken.items
  pub found : All (IsFound hunt.taken.items hunt.plan) hunt.found.items

-- a hunt has gone on: what it says of any rules it says still
pub record HuntsOn (before after : Hunt) : Type 0 where
  pub plan : after.plan ≡ before.plan
  pub taken : after.taken ≡ before.taken
  pub hunt : (rules : List RuleLine) → IsHunt rules before → IsHunt rules after
