-- The looks of watch after watch are right.
use Rattle.std.proofs.Common.{◌≡◌, ℕ, ◌+◌, ◌<◌, ◌≤◌, nat_lt, nat_le, true, cond, List, [], ◌∷◌, ◌++◌, length, map, Option, None, Some, All, suc, refl, sym, ap, ◌∙◌, subst, arith, append_assoc, append-nil}
use Rattle.std.proofs.lemmas.Cmp.{int_eq_equiv}
use Rattle.std.proofs.lemmas.Bool.{and_parts, and_from, or_left, or_right, eq-eqb}
use Rattle.std.proofs.lemmas.Bool.Decides.{nat_tests}
use Rattle.std.proofs.lemmas.List.{length-append, length-map}
use Rattle.std.proofs.lemmas.List.Elements.{All-append, All-nil, All-cons, All-head, All-tail, All-weaker}
use Rattle.std.proofs.Math.Nat.{suc-mul}
use Rattle.caa_base.specs.declared.written.entry.Entry.{Entry}
use Rattle.place_plan.specs.Plans.PlanValue.{Plan}
use Rattle.place_plan.specs.Drafts.DraftRules.{is_rising_above}
use Rattle.place_plan.specs.RulesOfJournals.Journals.{committed_value}
use Rattle.journal_text.specs.declared.looks.seens.Seen.{Seen}
use Rattle.journal_text.specs.Watching.Looks.{last_watch}
use Rattle.journal_text.specs.Texts.Text.{watched_object}
use Rattle.journal_text.specs.Watching.Right.{is_committed, follows, is_followed, is_whole, next_seen, first_wrong_from}
use Rattle.shared_views.specs.declared.observed.Reading.{Reading}
use Rattle.role_driver.specs.inner.Records.{ends_rise}
use Rattle.role_driver.specs.inner.Gathering.{look_of, IsBefore, AreRightSoFar}

-- the look of the first of these readings and the last
abbrev first_of : List Reading → Reading → Reading
first_of [] last = last
first_of (r ∷ rs) last = r

last_watch_more : (k low : ℕ) (seens : List Seen) (rs : List Reading) (last : Reading)
    → last_watch low (seens ++ map (look_of k) (rs ++ last ∷ [])) ≡ k
last_watch_more k low [] [] last = refl
last_watch_more k low [] (r ∷ rs) last = last_watch_more k k [] rs last
last_watch_more k low (s ∷ seens) rs last = last_watch_more k s.watch seens rs last

module _ (plan : Plan) (past : List Entry) where
  -- a reading of what was committed
  abbrev pub IsCommitted : ℕ → Reading → Type 0
  IsCommitted k r = r.value ≡ committed_value plan past r.ends (watched_object plan k)

  committed : (k : ℕ) (r : Reading) → IsCommitted k r → is_committed plan past (look_of k r) ≡ true
  committed k r c = rw c (int_eq_equiv.refl (committed_value plan past r.ends (watched_object plan k)))

  right_one : (k : ℕ) (r : Reading) (before after : Option Seen) (i : ℕ) (more : List Seen) → IsCommitted k r
      → follows before (look_of k r) ≡ true → is_followed plan (look_of k r) after ≡ true → next_seen more ≡ after
      → first_wrong_from plan past before (look_of k r ∷ more) i ≡ first_wrong_from plan past (Some (look_of k r)) more (suc i)
  right_one k r before after i more c f g n =
      ap (λ b. cond b (first_wrong_from plan past (Some (look_of k r)) more (suc i)) (Some i))
      (and_from _ _ f (and_from _ _ (subst (λ a. is_followed plan (look_of k r) a ≡ true) (sym n) g) (committed k r c)))

  -- the looks of one watch are right, whatever comes after
  right_group : (k : ℕ) (rs : List Reading) (last : Reading) (before : Option Seen) (more : List Seen) (i : ℕ)
      → All (IsCommitted k) (rs ++ last ∷ []) → ends_rise (rs ++ last ∷ []) ≡ true → last.ends ≡ length plan.plays
      → follows before (look_of k (first_of rs last)) ≡ true
      → first_wrong_from plan past before (map (look_of k) (rs ++ last ∷ []) ++ more) i ≡ first_wrong_from plan past
      (Some (look_of k last)) more (i + length (rs ++ last ∷ []))
  right_group k [] last before more i c up end f =
      right_one k last before (next_seen more) i more (All-head (IsCommitted k) last [] c) f (ended (next_seen more)) refl
      ∙ ap (first_wrong_from plan past (Some (look_of k last)) more) (omega arith)
    where
      ended : (after : Option Seen) → is_followed plan (look_of k last) after ≡ true
      ended None = eq-eqb last.ends (length plan.plays) end
      ended (Some s) = or_right _ _ (eq-eqb last.ends (length plan.plays) end)
  right_group k (r ∷ rs) last before more i c up end f =
      right_one k r before (Some (look_of k (first_of rs last))) i (map (look_of k) (rs ++ last ∷ []) ++ more)
      (All-head (IsCommitted k) r (rs ++ last ∷ []) c) f (or_left _ _ (eq-eqb k k refl)) (next rs)
      ∙ right_group k rs last (Some (look_of k r)) more (suc i) (All-tail (IsCommitted k) r (rs ++ last ∷ []) c) (rest rs up)
      end (or_left _ _ (and_from _ _ (eq-eqb k k refl) (rises rs up)))
      ∙ ap (first_wrong_from plan past (Some (look_of k last)) more) (omega arith)
    where
      next : (qs : List Reading) → next_seen (map (look_of k) (qs ++ last ∷ []) ++ more) ≡ Some (look_of k (first_of qs last))
      next [] = refl
      next (q ∷ qs) = refl

      rest : (qs : List Reading) → is_rising_above r.ends (map (λ q. q.ends) (qs ++ last ∷ [])) ≡ true → ends_rise (qs ++ last ∷ []) ≡ true
      rest [] u = refl
      rest (q ∷ qs) u = (and_parts (nat_lt r.ends q.ends) _ u).1

      below : (m n : ℕ) → nat_lt m n ≡ true → nat_le m n ≡ true
      below m n l = grind (arith, nat_tests, l)

      rises : (qs : List Reading) → is_rising_above r.ends (map (λ q. q.ends) (qs ++ last ∷ [])) ≡ true
          → nat_le r.ends (first_of qs last).ends ≡ true
      rises [] u = below r.ends last.ends (and_parts (nat_lt r.ends last.ends) _ u).0
      rises (q ∷ qs) u = below r.ends q.ends (and_parts (nat_lt r.ends q.ends) _ u).0

  -- one watch more
  pub next_watch : (k : ℕ) (seens : List Seen) (rs : List Reading) (last : Reading) → AreRightSoFar plan past k seens
      → All (IsCommitted k) (rs ++ last ∷ []) → ends_rise (rs ++ last ∷ []) ≡ true → last.ends ≡ length plan.plays
      → length (rs ++ last ∷ []) ≤ suc (length plan.plays) → AreRightSoFar plan past (suc k) (seens ++ map (look_of k) (rs ++ last ∷ []))
  next_watch k seens rs last s c up end few =
      let group = map (look_of k) (rs ++ last ∷ []) in
      let long : length (seens ++ group) ≡ length seens + length (rs ++ last ∷ []) = length-append seens group
      ∙ ap (λ n. length seens + n) (length-map (rs ++ last ∷ []) (look_of k)) in
      record {
        last = Some (look_of k last);
        before = refl;
        right = λ more.
            ap (λ l. first_wrong_from plan past None l 0) (append_assoc seens group more) ∙ s.right (group ++ more)
            ∙ right_group k rs last s.last more (length seens) c up end (comes s.last s.before)
            ∙ ap (first_wrong_from plan past (Some (look_of k last)) more) (sym long);
        few = omega (arith, long, s.few, few, suc-mul k (suc (length plan.plays)));
        order = omega (arith, last_watch_more k 0 seens rs last);
        of_plan =
            All-append (λ t. t.watch < suc k) seens group
            (All-weaker (λ (t : Seen). t.watch < k) (λ (t : Seen). t.watch < suc k) (λ t l. omega (arith, l)) seens s.of_plan)
            (of_watch (rs ++ last ∷ []));
      }
    where
      comes : (b : Option Seen) → IsBefore k b → follows b (look_of k (first_of rs last)) ≡ true
      comes None e = eq-eqb k 0 e
      comes (Some t) e = or_right _ _ (eq-eqb k (suc t.watch) (sym e))

      of_watch : (qs : List Reading) → All (λ t. t.watch < suc k) (map (look_of k) qs)
      of_watch [] = All-nil (λ (t : Seen). t.watch < suc k)
      of_watch (q ∷ qs) = All-cons (λ (t : Seen). t.watch < suc k) (look_of k q) (map (look_of k) qs) (omega arith) (of_watch qs)

  -- after all watches the looks are right
  pub all_right : (seens : List Seen) → AreRightSoFar plan past (length plan.watches) seens → first_wrong_from plan past None seens 0 ≡ None
  all_right seens s = ap (λ l. first_wrong_from plan past None l 0) (sym (append-nil seens)) ∙ s.right []
      ∙ ap (λ b. cond b None (Some (length seens))) (whole s.last s.before)
    where
      whole : (b : Option Seen) → IsBefore (length plan.watches) b → is_whole plan b ≡ true
      whole None e = eq-eqb (length plan.watches) 0 e
      whole (Some t) e = eq-eqb (suc t.watch) (length plan.watches) e
