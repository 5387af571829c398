-- What a view says of a rule that is broken. A past has its newest entry first, a journal its oldest.
use Rattle.std.specs.Prelude.{◌≡◌, ℕ, ◌-◌, Bool, true, false, List, [], map, reverse, Option, None, Some, slice_get}
use Rattle.std.specs.List.{All}
use Rattle.caa_base.specs.declared.written.entry.Entry.{Entry}
use Rattle.place_plan.specs.Plans.PlanValue.{Plan}
use Rattle.place_plan.specs.RulesOfJournals.Journals.{IsLegal, IsComplete}
use Rattle.journal_text.specs.Texts.Text.{entry_line}
use Rattle.interlock_rules.specs.Interlocks.{KeepsInterlock, IsFirstBreak, Takes}
use Rattle.interlock_rules.specs.declared.monitor.FirstBreak.{FirstBreak}
use Rattle.interlock_rules.specs.declared.monitor.FirstBreak.TheVariants as broken
use Rattle.interlock_rules.specs.declared.rules.Rule.{Rule}
use Rattle.interlock_views.specs.declared.found.Broken.{Broken}
use Rattle.interlock_views.specs.declared.found.Found.{Found}
use Rattle.interlock_views.specs.declared.found.JudgedRule.{JudgedRule}
use Rattle.interlock_views.specs.declared.reading.RuleLine.{RuleLine}

-- the line of an entry, if there is one
abbrev pub line_of : Plan → Option Entry → List ℕ
line_of plan None = []
line_of plan (Some e) = entry_line plan e

-- the line of the entry that breaks a rule: of the entry of this number, counted from 1; none where no entry does
abbrev pub breaking_line : Plan → List Entry → FirstBreak → List ℕ
breaking_line plan journal broken.Nowhere = []
breaking_line plan journal broken.FirstValues = []
breaking_line plan journal (broken.ByEntry n) = line_of plan (slice_get journal (n - 1))

-- something breaks a rule
abbrev pub is_somewhere : FirstBreak → Bool
is_somewhere broken.Nowhere = false
is_somewhere _ = true

-- the journal breaks the rule, first where it is told, and by the entry whose line is told
pub record IsBroken (rule : Rule) (plan : Plan) (journal : List Entry) (told : Broken) : Type 0 where
  pub some : is_somewhere told.by ≡ true
  pub first : IsFirstBreak rule plan journal told.by
  pub line : told.line.items ≡ breaking_line plan journal told.by

-- a journal was judged by a rule: it is told where it breaks it, or it keeps it
abbrev pub IsJudged : Rule → Plan → List Entry → Option Broken → Type 0
IsJudged rule plan journal None = KeepsInterlock rule plan (reverse journal)
IsJudged rule plan journal (Some told) = IsBroken rule plan journal told

-- a journal was judged by a rule of a file
abbrev pub IsJudgedRule : Plan → List Entry → JudgedRule → Type 0
IsJudgedRule plan journal judged = IsJudged judged.line.rule plan journal judged.broken

-- a journal was judged by each of these rules, in their order
pub record AreJudgedBy (plan : Plan) (journal : List Entry) (rules : List RuleLine) (judged : List JudgedRule) : Type 0 where
  pub rules_are : map (λ it. it.line) judged ≡ rules
  pub each : All (IsJudgedRule plan journal) judged

-- some legal and complete journal, in which the device takes each put and restore of these objects, breaks the rule where it is told
pub record IsFound (taken : List ℕ) (plan : Plan) (found : Found) : Type 0 where
  pub journal : List Entry
  pub legal : IsLegal plan journal
  pub complete : IsComplete plan journal
  pub takes : Takes taken (reverse journal)
  pub broken : IsBroken found.line.rule plan journal found.broken
