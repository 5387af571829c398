-- Legal and complete journals, and what a journal did to the objects.
use Rattle.std.specs.Prelude.{◌≡◌, ℕ, ℤ, ◌==◌, ◌<◌, Bool, true, ◌&&◌, ◌||◌, if◌then◌else◌, List, [], ◌∷◌, ◌++◌, filter, length, reverse, take, is_none}
use Rattle.caa_base.specs.Written.Marks.{taken_mark, refused_mark}
use Rattle.caa_base.specs.declared.written.entry.Entry.{Entry}
use Rattle.caa_base.specs.declared.written.entry.Kind.TheVariants as kind
use Rattle.place_plan.specs.Plans.PlanValue.{Plan}
use Rattle.caa_base.specs.Written.Lists.{member}
use Rattle.place_plan.specs.Plans.Places.{parent, top_of}
use Rattle.place_plan.specs.RulesOfJournals.Entries.{is_of}
use Rattle.place_plan.specs.RulesOfJournals.Objects.{value_of}
use Rattle.place_plan.specs.RulesOfJournals.Roles.{is_over}
use Rattle.place_plan.specs.RulesOfJournals.Rules.{MayFollow}

-- each entry may follow those before it; the newest stands first
abbrev pub LegalPast : Plan → List Entry → Type 0
LegalPast plan [] = Unit {0}
LegalPast plan (e ∷ past) = LegalPast plan past × MayFollow plan past e

-- the same of a journal, whose oldest entry stands first
abbrev pub IsLegal : Plan → List Entry → Type 0
IsLegal plan journal = LegalPast plan (reverse journal)

-- each participant is through with all its plays
abbrev pub AllOver : Plan → List Entry → Type 0
AllOver plan past = (t : ℕ) → t < length plan.participants → is_over plan past t ≡ true

-- the same of a journal, whose oldest entry stands first
abbrev pub IsComplete : Plan → List Entry → Type 0
IsComplete plan journal = AllOver plan (reverse journal)

-- t has no entry
abbrev pub HasNoEntry : Plan → List Entry → ℕ → Type 0
HasNoEntry plan past t = (e : Entry) → e.by ≡ t → MayFollow plan past e → ⊥

-- ---- the device

-- a put that the device took: a write, or a restore that is well
abbrev pub is_put : Entry → Bool
is_put e = is_of kind.Write e || (is_of kind.Restore e && (e.mark == taken_mark))

-- what was put
abbrev pub object_and_value : Entry → ℕ × ℤ
object_and_value e = (e.arg, e.value)

-- the puts of a journal that the device took, in order
abbrev pub puts_of : List Entry → List (ℕ × ℤ)
puts_of [] = []
puts_of (e ∷ entries) = if is_put e then object_and_value e ∷ puts_of entries else puts_of entries

-- a put or a restore that the device refused
abbrev pub is_fault : Entry → Bool
is_fault e = is_of kind.PutFault e || (is_of kind.Restore e && (e.mark == refused_mark))

-- how many puts and restores of the journal the device refused
abbrev pub faults_in : List Entry → ℕ
faults_in journal = length (filter is_fault journal)

-- ---- committed values

-- the entry is the End of a play
abbrev pub ends_play : Plan → Entry → Bool
ends_play plan e = is_of kind.End e && is_none (parent plan e.place)

-- the plays that have ended, the first first
abbrev pub plays_ended : Plan → List Entry → List ℕ
plays_ended plan [] = []
plays_ended plan (e ∷ past) = if ends_play plan e then plays_ended plan past ++ e.place ∷ [] else plays_ended plan past

-- the value that o has by the n plays that ended first: only their entries are looked at, and those of the places inside
abbrev pub committed_value : Plan → List Entry → ℕ → ℕ → ℤ
committed_value plan past n o = value_of plan (filter (λ e. member (top_of plan e.place) (take n (plays_ended plan past))) past) o
