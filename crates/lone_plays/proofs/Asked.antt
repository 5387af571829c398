-- What the rules ask of a past about a place, a participant or an object of plays that share nothing with the others, the rest of
-- the past answers too.
use Rattle.std.proofs.Common.{◌≡◌, ℕ, ◌==◌, Bool, true, false, ◌&&◌, ◌||◌, List, [], ◌∷◌, ◌++◌, Option, refl, sym, ap, ap₂, ◌∙◌, is_none, filter, inl, inr, not, cond}
use Rattle.std.specs.List.{list_any}
use Rattle.std.proofs.lemmas.Bool.{and_parts, or_cases, or_parts, false≢true, false_from_ne_true, both_ways}
use Rattle.caa_base.specs.declared.written.entry.Entry.{Entry}
use Rattle.caa_base.specs.declared.written.entry.Kind.{Kind}
use Rattle.caa_base.specs.declared.written.entry.Kind.TheVariants as kind
use Rattle.caa_base.specs.Written.Lists.{member, is_at, is_empty, same_option}
use Rattle.caa_base.specs.Written.Marks.{taken_mark, refused_mark}
use Rattle.place_plan.specs.Plans.PlanValue.{Plan}
use Rattle.place_plan.specs.Plans.Places.{around, parent, roles_of, objects_of, uses, fault_of, next_alternate}
use Rattle.place_plan.specs.RulesOfJournals.Entries.{is_of, is_in, is_by, newest}
use Rattle.place_plan.specs.RulesOfJournals.Whereabouts.{inside_after, inside, is_inside, all_are_inside, is_undone, is_left_in_silence, is_live, is_going}
use Rattle.place_plan.specs.RulesOfJournals.Raising.{has_handled, raises_in, exceptions_raised, is_raised, is_doomed, is_calm, is_hot, halts_in, is_halted, all_are_halted, exception_resolved, exception_handled}
use Rattle.place_plan.specs.RulesOfJournals.Objects.{holder_after, holder_of, objects_are_ready, writes, restores, is_within_any, places_undone, value_outside, value_of, before_start, is_tried, has_failed, next_restore}
use Rattle.place_plan.specs.RulesOfJournals.Attempts.{is_attempt_on}
use Rattle.lone_plays.proofs.Left.{IsGroup, IsOurs, IsOurObject, IsOwn, AllOwn, left, along, elsewhere, beside, stranger, our_role, our_object, in_mine, by_mine, not_in, any_left, newest_left, arg_left, has_left, has_by_left, all_same, any_same, first_same}

module _ (plan : Plan) (mine : ℕ → Bool) (group : IsGroup plan mine) (plays : List ℕ) where
  -- the plan with other plays
  abbrev pub alone : Plan
  alone = record plan { plays = plays }

  abbrev rest : List Entry → List Entry
  rest past = left mine past

  -- ---- where participants are

  inside_kind : (k : Kind) (p : ℕ) (own : Bool) (was : Option ℕ) → inside_after alone k p own was ≡ inside_after plan k p own was
  inside_kind kind.Arrive p own was = refl
  inside_kind _ p own was = refl

  inside_stays : (k : Kind) (p : ℕ) (was : Option ℕ) → inside_after plan k p false was ≡ was
  inside_stays kind.Arrive p was = refl
  inside_stays _ p was = refl

  pub inside_left : (t : ℕ) → IsOurs plan mine t → (past : List Entry) → AllOwn plan past
      → inside alone (rest past) t ≡ inside plan past t
  inside_left t ours past own =
      along plan mine group (λ ps. inside alone ps t) (λ ps. inside plan ps t) refl
      (λ e past o m ih. inside_kind e.kind e.place (e.by == t) (inside alone (rest past) t)
      ∙ ap (inside_after plan e.kind e.place (e.by == t)) ih)
      (λ e past o n. ap (λ b. inside_after plan e.kind e.place b (inside plan past t)) (stranger plan mine group e t ours o n)
      ∙ inside_stays e.kind e.place (inside plan past t)) past own

  pub all_inside_left : (p : ℕ) → mine p ≡ true → (past : List Entry) → AllOwn plan past
      → all_are_inside alone (rest past) p ≡ all_are_inside plan past p
  all_inside_left p m past own =
      all_same (is_inside alone (rest past) p) (is_inside plan past p) (roles_of plan p)
      (λ t r. ap (λ o. is_at o p) (inside_left t (our_role plan mine group p t m r) past own))

  -- ---- how far a place has come

  pub live_left : (p : ℕ) → mine p ≡ true → (past : List Entry) → AllOwn plan past → is_live (rest past) p ≡ is_live past p
  live_left p m past own =
      ap₂ (λ a b. a && not b) (has_left plan mine group kind.Start p m past own) (has_left plan mine group kind.End p m past own)

  pub going_left : (p : ℕ) → mine p ≡ true → (past : List Entry) → AllOwn plan past → is_going (rest past) p ≡ is_going past p
  going_left p m past own = ap₂ (λ a b. a && not b) (live_left p m past own) (has_left plan mine group kind.Undo p m past own)

  pub end_left : (p : ℕ) → mine p ≡ true → (past : List Entry) → AllOwn plan past
      → newest (is_in kind.End p) (rest past) ≡ newest (is_in kind.End p) past
  end_left p m past own = newest_left plan mine group (is_in kind.End p) (λ e w. in_mine plan mine group kind.End p e m w) past own

  pub silence_left : (p : ℕ) → mine p ≡ true → (past : List Entry) → AllOwn plan past
      → is_left_in_silence alone (rest past) p ≡ is_left_in_silence plan past p
  silence_left p m past own = ap (λ o. is_undone o && not (is_none (next_alternate plan p))) (end_left p m past own)

  -- ---- what was raised

  raises_kind : (k : Kind) (e : Entry) (ps qs : List Entry) (p : ℕ) → has_handled ps p e.by ≡ has_handled qs p e.by
      → raises_in alone ps p e k ≡ raises_in plan qs p e k
  raises_kind kind.PutFault e ps qs p h = ap (λ b. cond ((e.place == p) && not b) (fault_of plan p ∷ []) []) h
  raises_kind _ e ps qs p h = refl

  raises_none : (k : Kind) (e : Entry) (past : List Entry) (p : ℕ) → (e.place == p) ≡ false
      → is_at (parent plan e.place) p ≡ false → raises_in plan past p e k ≡ []
  raises_none kind.Raise e past p x y = rw x refl
  raises_none kind.PutFault e past p x y = rw x refl
  raises_none kind.Leave e past p x y = rw y refl
  raises_none _ e past p x y = refl

  pub raised_left : (p : ℕ) → mine p ≡ true → (past : List Entry) → AllOwn plan past
      → exceptions_raised alone (rest past) p ≡ exceptions_raised plan past p
  raised_left p m past own =
      along plan mine group (λ ps. exceptions_raised alone ps p) (λ ps. exceptions_raised plan ps p) refl
      (λ e past o n ih. ap₂ (λ a b. a ++ b)
      (raises_kind e.kind e (rest past) past p (has_by_left plan mine group kind.Handle p e.by m past o.0)) ih)
      (λ e past o n. ap (λ xs. xs ++ exceptions_raised plan past p)
      (raises_none e.kind e past p (elsewhere plan mine group e p m n) (beside plan mine group e p m n))) past own

  pub is_raised_left : (p : ℕ) → mine p ≡ true → (past : List Entry) → AllOwn plan past
      → is_raised alone (rest past) p ≡ is_raised plan past p
  is_raised_left p m past own = ap (λ xs. not (is_empty xs)) (raised_left p m past own)

  pub doomed_left : (p : ℕ) → mine p ≡ true → (past : List Entry) → AllOwn plan past
      → is_doomed alone (rest past) p ≡ is_doomed plan past p
  doomed_left p m past own =
      any_same (λ q. is_raised alone (rest past) q) (λ q. is_raised plan past q) (around plan p)
      (λ q r. is_raised_left q (group.up p q r ∙ m) past own)

  pub calm_left : (p : ℕ) → mine p ≡ true → (past : List Entry) → AllOwn plan past
      → is_calm alone (rest past) p ≡ is_calm plan past p
  calm_left p m past own =
      ap₂ (λ a b. a && b) (going_left p m past own)
      (ap₂ (λ a b. not a && not b) (doomed_left p m past own) (is_raised_left p m past own))

  pub hot_left : (p : ℕ) → mine p ≡ true → (past : List Entry) → AllOwn plan past
      → is_hot alone (rest past) p ≡ is_hot plan past p
  hot_left p m past own =
      ap₂ (λ a b. a && b) (going_left p m past own)
      (ap₂ (λ a b. not a && b) (doomed_left p m past own) (is_raised_left p m past own))

  -- ---- who was halted

  halts_kind : (k : Kind) (e : Entry) (ps qs : List Entry) (p : ℕ) → has_handled ps p e.by ≡ has_handled qs p e.by
      → halts_in alone ps p e k ≡ halts_in plan qs p e k
  halts_kind kind.PutFault e ps qs p h = ap (λ b. (e.place == p) && not b) h
  halts_kind _ e ps qs p h = refl

  halts_none : (k : Kind) (e : Entry) (past : List Entry) (p : ℕ) → (e.place == p) ≡ false
      → is_at (parent plan e.place) p ≡ false → halts_in plan past p e k ≡ false
  halts_none kind.Raise e past p x y = x
  halts_none kind.Inform e past p x y = x
  halts_none kind.PutFault e past p x y = rw x refl
  halts_none kind.Leave e past p x y = rw y refl
  halts_none _ e past p x y = refl

  pub halted_left : (p t : ℕ) → mine p ≡ true → (past : List Entry) → AllOwn plan past
      → is_halted alone (rest past) p t ≡ is_halted plan past p t
  halted_left p t m past own =
      along plan mine group (λ ps. is_halted alone ps p t) (λ ps. is_halted plan ps p t) refl
      (λ e past o n ih. ap₂ (λ a b. (a && (e.by == t)) || b)
      (halts_kind e.kind e (rest past) past p (has_by_left plan mine group kind.Handle p e.by m past o.0)) ih)
      (λ e past o n. ap (λ b. (b && (e.by == t)) || is_halted plan past p t)
      (halts_none e.kind e past p (elsewhere plan mine group e p m n) (beside plan mine group e p m n))) past own

  pub all_halted_left : (p : ℕ) → mine p ≡ true → (past : List Entry) → AllOwn plan past
      → all_are_halted alone (rest past) p ≡ all_are_halted plan past p
  all_halted_left p m past own =
      all_same (is_halted alone (rest past) p) (is_halted plan past p) (roles_of plan p) (λ t r. halted_left p t m past own)

  pub resolved_left : (p : ℕ) → mine p ≡ true → (past : List Entry) → AllOwn plan past
      → exception_resolved (rest past) p ≡ exception_resolved past p
  resolved_left p m past own = arg_left plan mine group (is_in kind.Resolve p) (λ e w. in_mine plan mine group kind.Resolve p e m w) past own

  pub handled_left : (p t : ℕ) → mine p ≡ true → (past : List Entry) → AllOwn plan past
      → exception_handled (rest past) p t ≡ exception_handled past p t
  handled_left p t m past own = arg_left plan mine group (is_by kind.Handle p t) (λ e w. by_mine plan mine group kind.Handle p t e m w) past own

  -- ---- who holds an object

  holder_kind : (k : Kind) (p o : ℕ) (was : Option ℕ) → holder_after alone k p o was ≡ holder_after plan k p o was
  holder_kind kind.Start p o was = refl
  holder_kind _ p o was = refl

  holder_stays : (k : Kind) (p o : ℕ) (was : Option ℕ) → uses plan p o ≡ false → holder_after plan k p o was ≡ was
  holder_stays kind.Start p o was u = rw u refl
  holder_stays kind.End p o was u = rw u refl
  holder_stays _ p o was u = refl

  pub holder_left : (o : ℕ) → IsOurObject plan mine o → (past : List Entry) → AllOwn plan past
      → holder_of alone (rest past) o ≡ holder_of plan past o
  holder_left o ours past own =
      along plan mine group (λ ps. holder_of alone ps o) (λ ps. holder_of plan ps o) refl
      (λ e past own m ih. holder_kind e.kind e.place o (holder_of alone (rest past) o) ∙ ap (holder_after plan e.kind e.place o) ih)
      (λ e past own n. holder_stays e.kind e.place o (holder_of plan past o) (ours e.place e.by n own.role)) past own

  pub ready_left : (p s : ℕ) → mine p ≡ true → member s (roles_of plan p) ≡ true → (past : List Entry) → AllOwn plan past
      → objects_are_ready alone (rest past) p ≡ objects_are_ready plan past p
  ready_left p s m w past own =
      all_same (λ o. same_option (holder_of alone (rest past) o) (parent plan p)) (λ o. same_option (holder_of plan past o) (parent plan p))
      (objects_of plan p)
      (λ o u. ap (λ h. same_option h (parent plan p)) (holder_left o (our_object plan mine group p s o m w u) past own))

  -- ---- values

  and_true : (b : Bool) → (b && true) ≡ false → b ≡ false
  and_true true h = h
  and_true false h = h

  and_false : (b : Bool) → (b && false) ≡ false
  and_false true = refl
  and_false false = refl

  -- an entry of another place asks nothing of an object of ours
  pub unasked : (o : ℕ) → IsOurObject plan mine o → (e : Entry) → IsOwn plan e → mine e.place ≡ false → is_attempt_on o e ≡ false
  unasked o ours e own n =
      false_from_ne_true (is_attempt_on o e) (λ w. both_ways _ (ours e.place e.by n own.role) (own.object o w))

  -- and so doesn't change it
  unchanged : (o : ℕ) → IsOurObject plan mine o → (e : Entry) → IsOwn plan e → mine e.place ≡ false
      → (writes o e ≡ false) × (restores o e ≡ false)
  unchanged o ours e own n = by_kind (is_of kind.Write e) (is_of kind.PutFault e) (is_of kind.Restore e) (e.arg == o) (unasked o ours e own n)
    where
      by_kind : (w f r same : Bool) → (w || (f || r)) && same ≡ false
          → (w && same ≡ false) × (r && (same && (e.mark == taken_mark)) ≡ false)
      by_kind w f r true h = let parts = or_parts w (f || r) (and_true (w || (f || r)) h) in
          rw (parts.0, (or_parts f r parts.1).1) (refl, refl)
      by_kind true f r false h = (refl, and_false r)
      by_kind false f r false h = (refl, and_false r)

  pub value_left : (o : ℕ) → IsOurObject plan mine o → (past : List Entry) → AllOwn plan past → (us : List ℕ)
      → value_outside alone (rest past) o us ≡ value_outside plan past o us
  value_left o ours [] own us = refl
  value_left o ours (e ∷ past) own us = by_place (mine e.place) refl (λ vs. value_left o ours past own.0 vs)
    where
      by_place : (b : Bool) → mine e.place ≡ b
          → ((vs : List ℕ) → value_outside alone (rest past) o vs ≡ value_outside plan past o vs)
          → value_outside alone (cond b (e ∷ rest past) (rest past)) o us ≡ value_outside plan (e ∷ past) o us
      by_place true m ih = ap (cond (writes o e && not (is_within_any plan e.place us)) e.value) (ih (places_undone o e us))
      by_place false n ih = let same = unchanged o ours e own.1 n in ih us ∙ sym (rw (same.0, same.1) refl)

  own_before : (p : ℕ) (past : List Entry) → AllOwn plan past → AllOwn plan (before_start past p)
  own_before p [] own = own
  own_before p (e ∷ past) own = by_test (is_in kind.Start p e) own.0 (own_before p past own.0)
    where
      by_test : (b : Bool) → AllOwn plan past → AllOwn plan (before_start past p) → AllOwn plan (cond b past (before_start past p))
      by_test true here before = here
      by_test false here before = before

  before_left : (p : ℕ) → mine p ≡ true → (past : List Entry) → AllOwn plan past
      → before_start (rest past) p ≡ rest (before_start past p)
  before_left p m past own =
      along plan mine group (λ ps. before_start ps p) (λ ps. rest (before_start ps p)) refl
      (λ e past o n ih. by_test past (is_in kind.Start p e) ih)
      (λ e past o n. rw (not_in plan mine group kind.Start p e m n) refl) past own
    where
      by_test : (past : List Entry) (b : Bool) → before_start (rest past) p ≡ rest (before_start past p)
          → cond b (rest past) (before_start (rest past) p) ≡ rest (cond b past (before_start past p))
      by_test past true ih = refl
      by_test past false ih = ih

  -- the value that an object of p had when p started
  pub first_value_left : (p s o : ℕ) → mine p ≡ true → member s (roles_of plan p) ≡ true → uses plan p o ≡ true → (past : List Entry) → AllOwn plan past
      → value_of alone (before_start (rest past) p) o ≡ value_of plan (before_start past p) o
  first_value_left p s o m w u past own =
      ap (λ ps. value_of alone ps o) (before_left p m past own)
      ∙ value_left o (our_object plan mine group p s o m w u) (before_start past p) (own_before p past own) []

  -- ---- restores

  pub tried_left : (p o : ℕ) → mine p ≡ true → (past : List Entry) → AllOwn plan past → is_tried (rest past) p o ≡ is_tried past p o
  tried_left p o m past own =
      any_left plan mine group (λ e. is_in kind.Restore p e && (e.arg == o))
      (λ e w. in_mine plan mine group kind.Restore p e m (and_parts (is_in kind.Restore p e) (e.arg == o) w).0) past own

  pub failed_left : (p : ℕ) → mine p ≡ true → (past : List Entry) → AllOwn plan past → has_failed (rest past) p ≡ has_failed past p
  failed_left p m past own =
      any_left plan mine group (λ e. is_in kind.Restore p e && (e.mark == refused_mark))
      (λ e w. in_mine plan mine group kind.Restore p e m (and_parts (is_in kind.Restore p e) (e.mark == refused_mark) w).0) past own

  pub next_restore_left : (p : ℕ) → mine p ≡ true → (past : List Entry) → AllOwn plan past
      → next_restore alone (rest past) p ≡ next_restore plan past p
  next_restore_left p m past own =
      first_same (is_tried (rest past) p) (is_tried past p) (objects_of plan p) (λ o u. tried_left p o m past own)

  -- ---- what the device was asked

  pub asked_left : (o : ℕ) → IsOurObject plan mine o → (past : List Entry) → AllOwn plan past
      → filter (is_attempt_on o) (rest past) ≡ filter (is_attempt_on o) past
  asked_left o ours past own =
      along plan mine group (filter (is_attempt_on o)) (filter (is_attempt_on o)) refl
      (λ e past own m ih. ap (λ es. cond (is_attempt_on o e) (e ∷ es) es) ih)
      (λ e past own n. rw (unasked o ours e own n) refl) past own

  -- an object that the rest asks the device to change is ours
  pub asked_ours : (o : ℕ) → (past : List Entry) → AllOwn plan past → list_any (is_attempt_on o) (rest past) ≡ true
      → IsOurObject plan mine o
  asked_ours o [] own w = absurd (false≢true w)
  asked_ours o (e ∷ past) own w = by_place (mine e.place) refl w (asked_ours o past own.0)
    where
      by_place : (b : Bool) → mine e.place ≡ b → list_any (is_attempt_on o) (cond b (e ∷ rest past) (rest past)) ≡ true
          → (list_any (is_attempt_on o) (rest past) ≡ true → IsOurObject plan mine o) → IsOurObject plan mine o
      by_place false m w ih = ih w
      by_place true m w ih =
          elim (or_cases (is_attempt_on o e) (list_any (is_attempt_on o) (rest past)) w) [
            | inl x ↦ our_object plan mine group e.place e.by o m own.1.role (own.1.object o x)
            | inr x ↦ ih x
          ]
