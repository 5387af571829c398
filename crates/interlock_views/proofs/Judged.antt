-- Rules that are judged by a journal, one after another.
use Rattle.std.proofs.Common.{◌≡◌, ℕ, List, [], ◌∷◌, ◌++◌, map, refl, sym, ap, ◌∙◌, subst, subst₂, inl, inr, append_assoc, IsPermutation}
use Rattle.std.specs.List.{All, Contains}
use Rattle.std.proofs.lemmas.List.{map-append}
use Rattle.std.proofs.lemmas.List.Elements.{All-nil, All-push, All-contains_itself, All-weaker, All-same}
use Rattle.std.proofs.lemmas.List.Sorted.{IsPermutation-refl, IsPermutation-sym, IsPermutation-trans, IsPermutation-middle, IsPermutation-append_comm, IsPermutation-append_right}
use Rattle.caa_base.specs.declared.written.entry.Entry.{Entry}
use Rattle.place_plan.specs.Plans.PlanValue.{Plan}
use Rattle.interlock_views.specs.Broken.{IsFound}
use Rattle.interlock_views.specs.Hunts.{IsKept, lines_of}
use Rattle.interlock_views.specs.inner.Judging.{IsJudgedSo, IsAdded, IsFoundThere, IsUnbrokenStill, AreJudgedSoFar}
use Rattle.interlock_views.specs.declared.found.Found.{Found}
use Rattle.interlock_views.specs.declared.found.JudgedRule.{JudgedRule}
use Rattle.interlock_views.specs.declared.hunting.Judged.{Judged}
use Rattle.interlock_views.specs.declared.hunting.Judged.TheVariants as judged
use Rattle.interlock_views.specs.declared.hunting.Lines.{Lines}
use Rattle.interlock_views.specs.declared.reading.RuleLine.{RuleLine}

-- an element that goes from the front to the end of the first list behind these, and one that goes to the end of all
to_unbroken : (rest first second : List RuleLine) (line : RuleLine) → IsPermutation (line ∷ (rest ++ (first ++ second))) (rest ++ ((first ++ line ∷ []) ++ second))
to_unbroken rest first second line =
    let there = IsPermutation-sym _ _ (IsPermutation-middle rest line (first ++ second)) in
    let on = IsPermutation-append_right rest _ _ (IsPermutation-sym _ _ (IsPermutation-middle first line second)) in
    subst (λ l. IsPermutation (line ∷ (rest ++ (first ++ second))) (rest ++ l)) (sym (append_assoc first (line ∷ []) second)) (IsPermutation-trans _ _ _ there on)

to_found : (rest first second : List RuleLine) (line : RuleLine) → IsPermutation (line ∷ (rest ++ (first ++ second))) (rest ++ (first ++ (second ++ line ∷ [])))
to_found rest first second line =
    let same : (rest ++ (first ++ second)) ++ line ∷ [] ≡ rest ++ (first ++ (second ++ line ∷ [])) =
    append_assoc rest (first ++ second) (line ∷ []) ∙ ap (λ l. rest ++ l) (append_assoc first second (line ∷ [])) in
    subst (IsPermutation (line ∷ (rest ++ (first ++ second)))) same (IsPermutation-append_comm (line ∷ []) (rest ++ (first ++ second)))

-- none was judged yet
pub judged_none : (taken : List ℕ) (plan : Plan) (journal : List Entry) (before after : Lines) → after.unbroken.items ≡ [] → after.found.items ≡ before.found.items
    → AreJudgedSoFar taken plan journal before after before.unbroken.items
judged_none taken plan journal before after empty same = record {
  unbroken = All-same (IsUnbrokenStill taken plan journal before) _ [] empty (All-nil (IsUnbrokenStill taken plan journal before));
  found = All-weaker (Contains before.found.items) (IsFoundThere taken plan before) (λ found is. inl is) after.found.items
      (All-same (Contains before.found.items) after.found.items before.found.items same (All-contains_itself before.found.items));
  rules_are = subst (λ u. IsPermutation (before.unbroken.items ++ lines_of before.found.items) (before.unbroken.items ++ (u ++ lines_of after.found.items))) (sym empty)
      (subst (λ f. IsPermutation (before.unbroken.items ++ lines_of before.found.items) (before.unbroken.items ++ lines_of f)) (sym same)
      (IsPermutation-refl (before.unbroken.items ++ lines_of before.found.items)));
}

-- one more rule was judged
pub judged_more : (taken : List ℕ) (plan : Plan) (journal : List Entry) (before old : Lines) (left : List RuleLine) (line : RuleLine) (one : Judged) (new : Lines)
    → AreJudgedSoFar taken plan journal before old (line ∷ left) → Contains before.unbroken.items line → IsJudgedSo taken plan journal line one
    → IsAdded old one new → AreJudgedSoFar taken plan journal before new left
judged_more taken plan journal before old left line (judged.Unbroken same) new so among is added =
    let P = IsUnbrokenStill taken plan journal before in
    record {
      unbroken = All-same P new.unbroken.items (old.unbroken.items ++ same ∷ []) added.0
          (All-push P old.unbroken.items same so.unbroken (subst (Contains before.unbroken.items) (sym is.0) among, subst (λ l. IsKept taken plan l journal) (sym is.0) is.1));
      found = All-same (IsFoundThere taken plan before) new.found.items old.found.items added.1 so.found;
      rules_are = subst₂ (λ u f. IsPermutation (before.unbroken.items ++ lines_of before.found.items) (left ++ (u ++ lines_of f))) (sym added.0) (sym added.1)
          (subst (λ l. IsPermutation (before.unbroken.items ++ lines_of before.found.items) (left ++ ((old.unbroken.items ++ l ∷ []) ++ lines_of old.found.items)))
          (sym is.0) (IsPermutation-trans _ _ _ so.rules_are (to_unbroken left old.unbroken.items (lines_of old.found.items) line)));
    }
judged_more taken plan journal before old left line (judged.Found found) new so among is added =
    let P = IsFoundThere taken plan before in
    record {
      unbroken = All-same (IsUnbrokenStill taken plan journal before) new.unbroken.items old.unbroken.items added.0 so.unbroken;
      found = All-same P new.found.items (old.found.items ++ found ∷ []) added.1
          (All-push P old.found.items found so.found (inr is.1));
      rules_are = subst₂ (λ u f. IsPermutation (before.unbroken.items ++ lines_of before.found.items) (left ++ (u ++ f))) (sym added.0)
          (sym (ap lines_of added.1 ∙ (map-append (λ it. it.line) old.found.items (found ∷ []) ∙ ap (λ l. lines_of old.found.items ++ l ∷ []) is.0)))
          (IsPermutation-trans _ _ _ so.rules_are (to_found left old.unbroken.items (lines_of old.found.items) line));
    }

-- the rules that were judged, and those that are left, are the same after one more
pub judged_on : (rules left rest : List RuleLine) (old new : List JudgedRule) (one : JudgedRule) → new ≡ old ++ one ∷ [] → left ≡ one.line ∷ rest
    → map (λ it. it.line) old ++ left ≡ rules → map (λ it. it.line) new ++ rest ≡ rules
judged_on rules left rest old new one more took is =
    let line_of : JudgedRule → RuleLine = λ it. it.line in
    let first : map line_of new ≡ map line_of old ++ one.line ∷ [] = ap (map line_of) more ∙ map-append line_of old (one ∷ []) in
    ap (λ l. l ++ rest) first ∙ (append_assoc (map line_of old) (one.line ∷ []) rest ∙ (ap (λ l. map line_of old ++ l) (sym took) ∙ is))
