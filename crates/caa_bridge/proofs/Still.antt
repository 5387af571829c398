-- What stays still by all that came to it took no put of its journal.
use Rattle.std.proofs.Common.{◌≡◌, if◌then◌else◌, ℕ, Bool, true, false, ◌&&◌, ◌||◌, not, List, [], ◌∷◌, ◌++◌, Option, None, Some, refl, ap, ◌∙◌, subst}
use Rattle.std.specs.List.{list_any}
use Rattle.caa_base.specs.declared.written.entry.Entry.{Entry}
use Rattle.caa_base.specs.declared.outside.plant.Asked.{Asked}
use Rattle.caa_base.specs.declared.outside.plant.Asked.TheVariants as asked
use Rattle.place_plan.specs.Plans.PlanValue.{Plan}
use Rattle.place_plan.specs.RulesOfJournals.Attempts.{is_attempt}
use Rattle.place_plan.specs.RulesOfJournals.Journals.{is_fault}
use Rattle.journal_replay.specs.Device.{asked_by, came_in, laying, history_after}
use Rattle.line_plant.specs.Sent.{NoneDone}
use Rattle.line_plant.specs.GivenUp.{says_failed, StaysStill}
use Rattle.caa_bridge.specs.Wire.{is_taken, NothingMoves}

-- what came with an entry, before what came later
abbrev with_entry : Bool → Entry → List Asked → List Asked
with_entry attempt e later = (if attempt then asked_by e ∷ asked.Entered e ∷ [] else asked.Entered e ∷ []) ++ later

-- where nothing was done, no put was taken
none_taken : (journal : List Entry) → NoneDone (came_in journal) → list_any is_taken journal ≡ false
none_taken [] none = refl
none_taken (e ∷ later) none = by_attempt (is_attempt e) none (none_taken later) where
  by_attempt : (attempt : Bool) → NoneDone (with_entry attempt e (came_in later))
      → (NoneDone (came_in later) → list_any is_taken later ≡ false)
      → ((attempt && not (is_fault e)) || list_any is_taken later) ≡ false
  by_attempt true none rest = ap (λ b. b || list_any is_taken later) none.0 ∙ rest none.1.1
  by_attempt false none rest = rest none.1

-- it stands still once a place has failed
pub nothing_moves : (places : List ℕ) (journal : List Entry) → StaysStill places (came_in journal) → NothingMoves places journal
nothing_moves places [] still = tt
nothing_moves places (e ∷ later) still =
    let behind = by_attempt (is_attempt e) still in
    ((λ failed. none_taken later (behind.0 failed)), nothing_moves places later behind.1) where
      by_attempt : (attempt : Bool) → StaysStill places (with_entry attempt e (came_in later))
          → (says_failed places e ≡ true → NoneDone (came_in later)) × StaysStill places (came_in later)
      by_attempt true still = still.1
      by_attempt false still = still

abbrev some_first : Option (List Asked) → List Asked
some_first None = []
some_first (Some all) = all

-- so it is with the journal of a device that nothing had come to before
pub stands_still : (places : List ℕ) (all before : List Asked) (plan : Plan) (journal : List Entry) → before ≡ []
    → StaysStill places all → Some all ≡ history_after plan journal (Some before) → NothingMoves places journal
stands_still places all before plan journal none still history =
    let same : all ≡ before ++ laying plan true ∷ came_in journal = ap some_first history in
    let first : all ≡ laying plan true ∷ came_in journal = same ∙ ap (λ b. b ++ laying plan true ∷ came_in journal) none in
    let laid = subst (StaysStill places) first still in
    nothing_moves places journal laid.1
