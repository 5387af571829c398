-- Plays that share nothing with the others, and what is left of a plan and of a journal where they alone are played.
use Rattle.std.specs.Prelude.{◌≡◌, ℕ, Bool, true, false, not, ◌||◌, List, filter, reverse}
use Rattle.std.specs.List.{list_any}
use Rattle.caa_base.specs.declared.written.entry.Entry.{Entry}
use Rattle.place_plan.specs.Plans.PlanValue.{Plan}
use Rattle.caa_base.specs.Written.Lists.{member}
use Rattle.place_plan.specs.Plans.Places.{roles_of, objects_of, uses, top_of}
use Rattle.place_plan.specs.RulesOfJournals.Objects.{value_of}
use Rattle.place_plan.specs.RulesOfJournals.Attempts.{IsDrilled}
use Rattle.place_plan.specs.RulesOfJournals.Journals.{LegalPast, AllOver}

-- p and q share something: some participant has a role in both, or both use some object
abbrev pub shares_with : Plan → ℕ → ℕ → Bool
shares_with plan p q = list_any (λ t. member t (roles_of plan q)) (roles_of plan p) || list_any (λ o. uses plan q o) (objects_of plan p)

-- none of the chosen plays shares anything with one that isn't chosen
abbrev pub StandApart : Plan → (ℕ → Bool) → Type 0
StandApart plan chosen =
    (p q : ℕ) → member p plan.plays ≡ true → member q plan.plays ≡ true → chosen p ≡ true → chosen q ≡ false
    → shares_with plan p q ≡ false

-- the plan in which the chosen plays alone are played: all else is as it was, so each place keeps its number
abbrev pub lone_plan : Plan → (ℕ → Bool) → Plan
lone_plan plan chosen = record plan { plays = filter chosen plan.plays }

-- the entries of the chosen plays, with those of the places inside
abbrev pub lone_entries : Plan → List Entry → (ℕ → Bool) → List Entry
lone_entries plan past chosen = filter (λ e. chosen (top_of plan e.place)) past

-- what stands of the chosen plays in the journal is as if the others weren't there
pub record IsUndisturbed (plan : Plan) (past : List Entry) (chosen : ℕ → Bool) : Type 0 where
  -- it is a legal journal of the plan with these plays alone
  pub legal : LegalPast (lone_plan plan chosen) (lone_entries plan past chosen)
  -- and complete where the whole is
  pub complete : AllOver plan past → AllOver (lone_plan plan chosen) (lone_entries plan past chosen)
  -- the device refused in it just what it was drilled to refuse, where it did so in the whole
  pub drilled : IsDrilled plan (reverse past) → IsDrilled (lone_plan plan chosen) (reverse (lone_entries plan past chosen))
  -- and it gives each object of these plays the value that the whole gives it
  pub values : (p o : ℕ) → member p plan.plays ≡ true → chosen p ≡ true → uses plan p o ≡ true
      → value_of (lone_plan plan chosen) (lone_entries plan past chosen) o ≡ value_of plan past o

-- plays that share nothing with the others don't see them, be it one play or several
abbrev pub LonePlays : Plan → List Entry → Type 0
LonePlays plan past = (chosen : ℕ → Bool) → StandApart plan chosen → IsUndisturbed plan past chosen

-- the play isn't chosen
abbrev pub is_other : (ℕ → Bool) → ℕ → Bool
is_other chosen p = not (chosen p)

-- what the chosen plays do alone and what the others do alone go together in every order
pub record JoinFreely (plan : Plan) (chosen : ℕ → Bool) : Type 0 where
  -- a journal is legal where its entries of the chosen plays and its entries of the others are, each alone
  pub joined : (past : List Entry) → LegalPast (lone_plan plan chosen) (lone_entries plan past chosen)
      → LegalPast (lone_plan plan (is_other chosen)) (lone_entries plan past (is_other chosen)) → LegalPast plan past
  -- alone, nobody is in a place of another play
  pub within : (past : List Entry) → LegalPast (lone_plan plan chosen) past → lone_entries plan past chosen ≡ past

-- plays that share nothing with the others don't hinder one another
abbrev pub LoneJournals : Plan → Type 0
LoneJournals plan = (chosen : ℕ → Bool) → StandApart plan chosen → JoinFreely plan chosen
