-- Whether what was seen is right: as facts, and by the first look that isn't.
use Rattle.std.specs.Prelude.{◌≡◌, ◌↔◌, ◌<◌, ◌≤◌, ℕ, suc, ◌==◌, nat_le, Bool, ◌&&◌, ◌||◌, if◌then◌else◌, List, [], ◌∷◌, length, reverse, Option, Some, None, IsSome, IfSome}
use Rattle.std.specs.List.{All, AllPairs, find}
use Rattle.std.specs.Ordering.{int_eq}
use Rattle.caa_base.specs.declared.written.entry.Entry.{Entry}
use Rattle.place_plan.specs.Plans.PlanValue.{Plan}
use Rattle.place_plan.specs.RulesOfJournals.Journals.{committed_value}
use Rattle.journal_text.specs.declared.looks.seens.Seen.{Seen}
use Rattle.journal_text.specs.Watching.Looks.{AreOfPlan}
use Rattle.journal_text.specs.Texts.Text.{watched_object}

-- ---- the rule

-- the last look of a watch, if it has any
abbrev pub last_look : ℕ → List Seen → Option Seen
last_look w seens = find (λ s. s.watch == w) (reverse seens)

-- what was seen is right for a journal
pub record AreRight (plan : Plan) (journal : List Entry) (seens : List Seen) : Type 0 where
  -- each look is of a watch of the plan
  pub of_plan : AreOfPlan plan seens
  -- no look stands before one of an earlier watch
  pub order : AllPairs (λ a b. a.watch ≤ b.watch) seens
  -- within a watch the number of plays that had ended doesn't fall
  pub rise : AllPairs (λ a b. a.watch ≡ b.watch → a.ends ≤ b.ends) seens
  -- each watch has a look
  pub each : (w : ℕ) → w < length plan.watches → IsSome (last_look w seens)
  -- at the last look of a watch all plays of the plan have ended
  pub last : (w : ℕ) → IfSome (last_look w seens) (λ s. s.ends ≡ length plan.plays)
  -- each look shows the value that its object has by the plays that had ended
  pub value : All (λ s. s.value ≡ committed_value plan (reverse journal) s.ends (watched_object plan s.watch)) seens

-- ---- the first look that breaks it

-- a look shows the value that its object had by the plays that had ended
abbrev pub is_committed : Plan → List Entry → Seen → Bool
is_committed plan past s = int_eq s.value (committed_value plan past s.ends (watched_object plan s.watch))

-- a look may follow on the one before it: it is of the same watch, and no play has come back, or it is the first of the next
-- watch
abbrev pub follows : Option Seen → Seen → Bool
follows None s = s.watch == 0
follows (Some before) s = ((s.watch == before.watch) && nat_le before.ends s.ends) || (s.watch == suc before.watch)

-- the last look of a watch comes when all plays have ended
abbrev pub is_followed : Plan → Seen → Option Seen → Bool
is_followed plan s None = s.ends == length plan.plays
is_followed plan s (Some after) = (after.watch == s.watch) || (s.ends == length plan.plays)

-- a look between the ones before and after it
abbrev pub is_right : Plan → List Entry → Option Seen → Seen → Option Seen → Bool
is_right plan past before s after = follows before s && (is_followed plan s after && is_committed plan past s)

-- no watch is left after the last look
abbrev pub is_whole : Plan → Option Seen → Bool
is_whole plan None = length plan.watches == 0
is_whole plan (Some last) = suc last.watch == length plan.watches

-- the first look of these, if there is any
abbrev pub next_seen : List Seen → Option Seen
next_seen [] = None
next_seen (s ∷ seens) = Some s

-- the number of the first wrong look of these, which are counted from i. Where a look is missing, because a watch has none at
-- all, it is the number that this look would have
abbrev pub first_wrong_from : Plan → List Entry → Option Seen → List Seen → ℕ → Option ℕ
first_wrong_from plan past before [] i = if is_whole plan before then None else Some i
first_wrong_from plan past before (s ∷ seens) i =
    if is_right plan past before s (next_seen seens) then first_wrong_from plan past (Some s) seens (suc i) else Some i

-- the number of the first wrong look of all, counted from 0; none where they are right
abbrev pub first_wrong : Plan → List Entry → List Seen → Option ℕ
first_wrong plan journal seens = first_wrong_from plan (reverse journal) None seens 0

-- no look is wrong exactly where what was seen is right
abbrev pub NoneIsWrong : Plan → Type 0
NoneIsWrong plan =
    (journal : List Entry) (seens : List Seen) → (first_wrong plan journal seens ≡ None) ↔ AreRight plan journal seens
