-- What a hunt says after one more play.
use Rattle.std.proofs.Common.{◌≡◌, ℕ, ◌+◌, ◌≤◌, List, [], ◌∷◌, ◌++◌, length, refl, sym, ap, ◌∙◌, subst, subst₂, inl, inr, arith, length-append, append-nil, Vec, Global, IsPermutation}
use Rattle.std.specs.List.{All, Contains}
use Rattle.std.proofs.lemmas.List.Elements.{All-push, All-contains, All-contains_itself, All-weaker, All-nil, All-same}
use Rattle.std.proofs.lemmas.List.Sorted.{IsPermutation-refl, IsPermutation-trans}
use Rattle.caa_base.specs.declared.written.entry.Entry.{Entry}
use Rattle.place_plan.specs.Plans.PlanValue.{Plan}
use Rattle.place_plan.specs.RulesOfJournals.Journals.{IsLegal, IsComplete}
use Rattle.interlock_views.specs.Broken.{IsFound}
use Rattle.interlock_views.specs.Hunts.{IsPlay, IsKept, IsUnbroken, IsHunt, HuntsOn, lines_of}
use Rattle.interlock_views.specs.inner.Judging.{IsFoundThere, IsUnbrokenStill, AreJudged}
use Rattle.interlock_views.specs.declared.found.Found.{Found}
use Rattle.interlock_views.specs.declared.hunting.Hunt.{Hunt}
use Rattle.interlock_views.specs.declared.hunting.Lines.{Lines}
use Rattle.interlock_views.specs.declared.reading.RuleLine.{RuleLine}

-- a rule that is unbroken after one more play
still_unbroken : (taken : List ℕ) (plan : Plan) (played : List (List Entry)) (journal : List Entry) (before : Lines)
    → All (IsUnbroken taken plan played) before.unbroken.items → (line : RuleLine) → IsUnbrokenStill taken plan journal before line
    → IsUnbroken taken plan (played ++ journal ∷ []) line
still_unbroken taken plan played journal before unbroken line is =
    All-push (IsKept taken plan line) played journal (All-contains (IsUnbroken taken plan played) before.unbroken.items line unbroken is.0) is.1

-- a rule that is found broken after one more play
found_now : (taken : List ℕ) (plan : Plan) (before : Lines) → All (IsFound taken plan) before.found.items
    → (found : Found) → IsFoundThere taken plan before found → IsFound taken plan found
found_now taken plan before old found (inl was) = All-contains (IsFound taken plan) before.found.items found old was
found_now taken plan before old found (inr is) = is

-- a hunt that played once more
pub played_on : (before after : Hunt) (journal : List Entry) → after.plan ≡ before.plan → after.taken ≡ before.taken → after.plays ≤ before.plays + 1
    → IsPlay before.plan journal
    → AreJudged before.taken.items before.plan journal (record { unbroken = before.unbroken; found = before.found }) (record { unbroken = after.unbroken; found = after.found })
    → HuntsOn before after
played_on before after journal same_plan same_taken plays play judged = record {
  plan = same_plan;
  taken = same_taken;
  hunt = λ rules h.
      let taken = before.taken.items in
      let same_items : after.taken.items ≡ before.taken.items = ap (λ (v : Vec ℕ Global). v.items) same_taken in
      let lines : Lines = record { unbroken = before.unbroken; found = before.found } in
      let unbroken = All-weaker (IsUnbrokenStill taken before.plan journal lines) (IsUnbroken taken before.plan (h.played ++ journal ∷ []))
      (still_unbroken taken before.plan h.played journal lines h.unbroken) after.unbroken.items judged.unbroken in
      let found = All-weaker (IsFoundThere taken before.plan lines) (IsFound taken before.plan)
      (found_now taken before.plan lines h.found) after.found.items judged.found in
      record {
        played = h.played ++ journal ∷ [];
        plays = omega (arith, h.plays, plays, length-append h.played (journal ∷ []));
        legal = subst (λ p. All (IsPlay p) (h.played ++ journal ∷ [])) (sym same_plan) (All-push (IsPlay before.plan) h.played journal h.legal play);
        rules_are = IsPermutation-trans _ _ _ h.rules_are judged.rules_are;
        unbroken = subst₂ (λ t p. All (IsUnbroken t p (h.played ++ journal ∷ [])) after.unbroken.items) (sym same_items) (sym same_plan) unbroken;
        found = subst₂ (λ t p. All (IsFound t p) after.found.items) (sym same_items) (sym same_plan) found;
      };
}

-- a hunt that played once more, as the code has it: a journal of the plan that came back, judged as a slice
pub played_so : (before after : Hunt) (told : Plan) (journal entries : List Entry) (taken : List ℕ) → told ≡ before.plan → after.plan ≡ told
    → after.taken ≡ before.taken → after.plays ≤ before.plays + 1 → IsLegal before.plan journal → IsComplete before.plan journal → entries ≡ journal
    → taken ≡ before.taken.items
    → AreJudged taken told entries (record { unbroken = before.unbroken; found = before.found }) (record { unbroken = after.unbroken; found = after.found })
    → HuntsOn before after
played_so before after told journal entries taken same_plan is_told same_taken plays legal complete same_entries same_items judged =
    let old : Lines = record { unbroken = before.unbroken; found = before.found } in
    let new : Lines = record { unbroken = after.unbroken; found = after.found } in
    let one : AreJudged taken before.plan entries old new = subst (λ p. AreJudged taken p entries old new) same_plan judged in
    let two : AreJudged taken before.plan journal old new = subst (λ j. AreJudged taken before.plan j old new) same_entries one in
    let three : AreJudged before.taken.items before.plan journal old new = subst (λ t. AreJudged t before.plan journal old new) same_items two in
    played_on before after journal (is_told ∙ same_plan) same_taken plays (record { legal = legal; complete = complete }) three

-- a hunt that goes no further
pub hunts_still : (hunt : Hunt) → HuntsOn hunt hunt
hunts_still hunt = record { plan = refl; taken = refl; hunt = λ rules h. h }

-- and one that goes on twice
pub hunts_then : (first second third : Hunt) → HuntsOn first second → HuntsOn second third → HuntsOn first third
hunts_then first second third one two = record {
  plan = two.plan ∙ one.plan;
  taken = two.taken ∙ one.taken;
  hunt = λ rules h. two.hunt rules (one.hunt rules h);
}

-- a hunt that has not begun, over rules that are all unbroken
pub hunt_begins : (hunt : Hunt) → hunt.plays ≡ 0 → hunt.found.items ≡ [] → IsHunt hunt.unbroken.items hunt
hunt_begins hunt none empty = record {
  played = [];
  plays = omega (arith, none);
  legal = All-nil (IsPlay hunt.plan);
  rules_are = subst (λ l. IsPermutation hunt.unbroken.items (hunt.unbroken.items ++ lines_of l)) (sym empty)
      (subst (IsPermutation hunt.unbroken.items) (sym (append-nil hunt.unbroken.items)) (IsPermutation-refl hunt.unbroken.items));
  unbroken = All-weaker (Contains hunt.unbroken.items) (IsUnbroken hunt.taken.items hunt.plan [])
      (λ line is. All-nil (IsKept hunt.taken.items hunt.plan line)) hunt.unbroken.items (All-contains_itself hunt.unbroken.items);
  found = All-same (IsFound hunt.taken.items hunt.plan) hunt.found.items [] empty (All-nil (IsFound hunt.taken.items hunt.plan));
}
