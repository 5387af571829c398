-- A lemma on lists of drills and the tables of the puts that they refuse.
use Rattle.std.proofs.Common.{◌≡◌, ℕ, Bool, true, false, cond, List, [], ◌∷◌, ◌++◌, ◌||◌, refl, sym, ◌∙◌}
use Rattle.std.specs.List.{list_any}
use Rattle.std.proofs.lemmas.List.Folds.{list_any-append}
use Rattle.std.specs.HashSet.{HashSet, contains}
use Rattle.caa_base.specs.declared.written.entry.Drill.{Drill}
use Rattle.script_checker.specs.Numbers.{is_drill}
use Rattle.script_checker.specs.inner.DrillTable.{same_put, HasPutsOf}

one_more : (new old : Bool) → cond new true old ≡ (old || (new || false))
one_more true true = refl
one_more true false = refl
one_more false true = refl
one_more false false = refl

-- a table stays one where both get a drill
pub puts_of_more : {S : Type 0} (old new : HashSet (ℕ × ℕ) S) (drills : List Drill) (drill : Drill) → HasPutsOf old drills
    → ((put : ℕ × ℕ) → contains same_put new put ≡ cond (same_put (drill.object, drill.nth) put) true (contains same_put old put)) →
    HasPutsOf new (drills ++ drill ∷ [])
puts_of_more old new drills drill has says object nth =
    says (object, nth)
    ∙ rw (has object nth) (one_more (is_drill object nth drill) (list_any (is_drill object nth) drills))
    ∙ sym (list_any-append (is_drill object nth) drills (drill ∷ []))
