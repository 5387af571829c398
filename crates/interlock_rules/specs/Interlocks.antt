-- What never is, by a rule. A past has its newest entry first.
use Rattle.std.specs.Prelude.{◌≡◌, ℕ, ℤ, ◌==◌, ◌<◌, ◌≤◌, Bool, true, false, not, ◌&&◌, ◌||◌, if◌then◌else◌, List, [], ◌∷◌, ◌++◌, length, reverse, take, int_lt}
use Rattle.std.specs.List.{All, list_any, list_all}
use Rattle.caa_base.specs.declared.written.entry.Entry.{Entry}
use Rattle.caa_base.specs.Written.Lists.{member}
use Rattle.place_plan.specs.Plans.PlanValue.{Plan}
use Rattle.place_plan.specs.Plans.Places.{initial_of}
use Rattle.place_plan.specs.RulesOfJournals.Attempts.{is_attempt_on}
use Rattle.place_plan.specs.RulesOfJournals.Journals.{is_put, is_fault}
use Rattle.place_plan.specs.RulesOfJournals.Roles.{int_same}
use Rattle.interlock_rules.specs.declared.monitor.FirstBreak.{FirstBreak}
use Rattle.interlock_rules.specs.declared.monitor.FirstBreak.TheVariants as broken
use Rattle.interlock_rules.specs.declared.rules.Condition.{Condition}
use Rattle.interlock_rules.specs.declared.rules.Condition.TheVariants as condition
use Rattle.interlock_rules.specs.declared.rules.Part.{Part}
use Rattle.interlock_rules.specs.declared.rules.Rule.{Rule}
use Rattle.interlock_rules.specs.declared.rules.When.{When}
use Rattle.interlock_rules.specs.declared.rules.When.TheVariants as when

-- ---- numbers that fit

-- x is as the condition says
abbrev pub passes : Condition → ℤ → Bool
passes (condition.Equal bound) x = int_same x bound
passes (condition.Not bound) x = not (int_same x bound)
passes (condition.Below bound) x = int_lt x bound
passes (condition.Above bound) x = int_lt bound x

-- x is as all conditions of the part say
abbrev pub fits : Part → ℤ → Bool
fits part x = list_all (λ c. passes c x) part.conditions

-- ---- where an object may be

-- the device took this put or restore of o
abbrev pub is_put_on : ℕ → Entry → Bool
is_put_on o e = is_put e && (e.arg == o)

-- the device refused this put or restore of o
abbrev pub is_fault_on : ℕ → Entry → Bool
is_fault_on o e = is_fault e && (e.arg == o)

-- o may be at x: it was put there last, or a put or a restore that was refused since may have brought it there; at the beginning
-- it is at its first value
abbrev pub may_be : Plan → List Entry → ℕ → ℤ → Bool
may_be plan [] o x = int_same x (initial_of plan o)
may_be plan (e ∷ past) o x =
    if is_put_on o e then int_same x e.value
    else (is_fault_on o e && int_same x e.value) || may_be plan past o x

-- o may be elsewhere than at x
pub record MayBeElsewhere (plan : Plan) (past : List Entry) (o : ℕ) (x : ℤ) : Type 0 where
  pub at : ℤ
  pub may : may_be plan past o at ≡ true
  pub other : int_same at x ≡ false

-- the object of the part may be at a number that fits
pub record MayFit (plan : Plan) (past : List Entry) (part : Part) : Type 0 where
  pub at : ℤ
  pub may : may_be plan past part.object at ≡ true
  pub fit : fits part at ≡ true

-- the objects of all parts may be at once where they fit
abbrev pub AllMayFit : Plan → List Entry → List Part → Type 0
AllMayFit plan past parts = All (MayFit plan past) parts

-- ---- what breaks a rule

-- the entry asks the device to bring the object of the part to a number that fits: a put or a restore, taken or refused
abbrev pub asks : Part → Entry → Bool
asks part e = is_attempt_on part.object e && fits part e.value

-- the newest entry breaks a rule with these parts, that is looked at then; where there is no entry, the first values do
abbrev pub BreaksWhen : When → List Part → Plan → List Entry → Type 0
BreaksWhen when.Always parts plan past = AllMayFit plan past parts
BreaksWhen (when.Asked it) parts plan [] = ⊥
BreaksWhen (when.Asked it) parts plan (e ∷ past) = (asks it e ≡ true) × AllMayFit plan past parts
BreaksWhen (when.Moved it) parts plan [] = ⊥
BreaksWhen (when.Moved it) parts plan (e ∷ past) =
    (asks it e ≡ true) × MayBeElsewhere plan past it.object e.value × AllMayFit plan past parts

-- the newest entry of the past breaks the rule; where there is none, the first values do
abbrev pub Breaks : Rule → Plan → List Entry → Type 0
Breaks rule plan past = BreaksWhen rule.when rule.parts plan past

-- nothing breaks the rule: neither the first values nor an entry
abbrev pub KeepsInterlock : Rule → Plan → List Entry → Type 0
KeepsInterlock rule plan past = (later before : List Entry) → past ≡ later ++ before → Breaks rule plan before → ⊥

-- ---- rules that hold of a device that takes some things

-- the device took each put and each restore of these objects
abbrev pub Takes : List ℕ → List Entry → Type 0
Takes taken past = (o : ℕ) → member o taken ≡ true → list_any (is_fault_on o) past ≡ false

-- unless the device refused a put or a restore of one of these objects, nothing breaks the rule
abbrev pub IsInterlocked : Rule → List ℕ → Plan → List Entry → Type 0
IsInterlocked rule taken plan past = Takes taken past → KeepsInterlock rule plan past

-- ---- where a journal breaks a rule first; its oldest entry stands first

-- the past of a journal after its first n entries
abbrev pub past_after : List Entry → ℕ → List Entry
past_after journal n = reverse (take n journal)

-- the last of the first n entries of a journal breaks the rule, and nothing before it does
pub record IsFirstBroken (rule : Rule) (plan : Plan) (journal : List Entry) (n : ℕ) : Type 0 where
  pub some : 0 < n
  pub within : n ≤ length journal
  pub broken : Breaks rule plan (past_after journal n)
  pub before : (m : ℕ) → m < n → Breaks rule plan (past_after journal m) → ⊥

-- this is where the journal breaks the rule first
abbrev pub IsFirstBreak : Rule → Plan → List Entry → FirstBreak → Type 0
IsFirstBreak rule plan journal broken.Nowhere = KeepsInterlock rule plan (reverse journal)
IsFirstBreak rule plan journal broken.FirstValues = Breaks rule plan []
IsFirstBreak rule plan journal (broken.ByEntry n) = IsFirstBroken rule plan journal n
