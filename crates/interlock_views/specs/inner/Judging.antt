-- What one play of a hunt comes to.
use Rattle.std.specs.Prelude.{◌≡◌, ◌⊎◌, ℕ, List, [], ◌∷◌, ◌++◌, IsPermutation}
use Rattle.std.specs.List.{All, Contains}
use Rattle.caa_base.specs.declared.written.entry.Entry.{Entry}
use Rattle.place_plan.specs.Plans.PlanValue.{Plan}
use Rattle.interlock_views.specs.Broken.{IsFound}
use Rattle.interlock_views.specs.Hunts.{IsKept, lines_of}
use Rattle.interlock_views.specs.declared.found.Found.{Found}
use Rattle.interlock_views.specs.declared.hunting.Judged.{Judged}
use Rattle.interlock_views.specs.declared.hunting.Judged.TheVariants as judged
use Rattle.interlock_views.specs.declared.hunting.Lines.{Lines}
use Rattle.interlock_views.specs.declared.reading.RuleLine.{RuleLine}

-- what a rule comes to by a journal: it is unbroken and the journal keeps it, or it is found broken, and some journal breaks it so
abbrev pub IsJudgedSo : List ℕ → Plan → List Entry → RuleLine → Judged → Type 0
IsJudgedSo taken plan journal line (judged.Unbroken same) = (same ≡ line) × IsKept taken plan line journal
IsJudgedSo taken plan journal line (judged.Found found) = (found.line ≡ line) × IsFound taken plan found

-- a rule was added to those that are unbroken, or to those that are found broken
abbrev pub IsAdded : Lines → Judged → Lines → Type 0
IsAdded before (judged.Unbroken line) after = (after.unbroken.items ≡ before.unbroken.items ++ line ∷ []) × (after.found.items ≡ before.found.items)
IsAdded before (judged.Found found) after = (after.unbroken.items ≡ before.unbroken.items) × (after.found.items ≡ before.found.items ++ found ∷ [])

-- a rule that was found broken before, or is found broken now
abbrev pub IsFoundThere : List ℕ → Plan → Lines → Found → Type 0
IsFoundThere taken plan before found = Contains before.found.items found ⊎ IsFound taken plan found

-- a rule that was unbroken, and that the journal keeps
abbrev pub IsUnbrokenStill : List ℕ → Plan → List Entry → Lines → RuleLine → Type 0
IsUnbrokenStill taken plan journal before line = Contains before.unbroken.items line × IsKept taken plan line journal

-- each rule that was unbroken is unbroken still, and the journal keeps it, or found broken, or among these, which are left to be judged
pub record AreJudgedSoFar (taken : List ℕ) (plan : Plan) (journal : List Entry) (before after : Lines) (left : List RuleLine) : Type 0 where
  pub unbroken : All (IsUnbrokenStill taken plan journal before) after.unbroken.items
  pub found : All (IsFoundThere taken plan before) after.found.items
  pub rules_are : IsPermutation (before.unbroken.items ++ lines_of before.found.items)
      (left ++ (after.unbroken.items ++ lines_of after.found.items))

-- a journal was judged by all rules that were unbroken
abbrev pub AreJudged : List ℕ → Plan → List Entry → Lines → Lines → Type 0
AreJudged taken plan journal before after = AreJudgedSoFar taken plan journal before after []
