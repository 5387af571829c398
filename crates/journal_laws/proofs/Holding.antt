-- In a tree of places, an object is held by a live place inside all others that use it, and objects are touched only there.
use Rattle.std.proofs.Common.{◌≡◌, ℕ, ◌==◌, Bool, true, false, not, cond, ◌&&◌, ◌||◌, List, [], ◌∷◌, Some, None, Option, refl, sym, ap, ◌∙◌, subst, inl, inr, MatchBool}
use Rattle.std.proofs.lemmas.Bool.{and_parts, and_from, or_cases, or_right, eqb-true, false≢true, cases_Bool, false_from_ne_true, both_ways}
use Rattle.caa_base.specs.declared.written.entry.Entry.{Entry}
use Rattle.caa_base.specs.declared.written.entry.Kind.{Kind}
use Rattle.caa_base.specs.declared.written.entry.Kind.TheVariants as kind
use Rattle.place_plan.specs.Plans.PlanValue.{Plan}
use Rattle.caa_base.specs.Written.Lists.{member, same_option}
use Rattle.place_plan.specs.Plans.Places.{around, parent, uses, is_within, objects_of}
use Rattle.place_plan.specs.RulesOfJournals.Whereabouts.{inside, has_started, has_ended, is_undoing, is_live}
use Rattle.place_plan.specs.RulesOfJournals.Objects.{holder_of}
use Rattle.place_plan.specs.RulesOfJournals.Rules.{Row, MayStart, MayEnd, EndsUndone, EndsAgreed}
use Rattle.place_plan.specs.RulesOfJournals.Journals.{LegalPast}
use Rattle.journal_laws.specs.Laws.{Holds, HolderIsInnermost}
use Rattle.journal_laws.proofs.Playable.{IsTree}
use Rattle.caa_base.proofs.ListLemmas.{all_at}
use Rattle.place_plan.proofs.OnJournals.EntryKinds.{of_kind}
use Rattle.journal_laws.proofs.Lives.{live_parts, live_from, going_live}
use Rattle.journal_laws.proofs.Tree.{in_within, live_within}
use Rattle.journal_laws.proofs.Busy.{IsBusy, AllBusy, all_busy, not_ending, live_of}
use Rattle.journal_laws.proofs.InnerFirst.{started_filled, round_round}
use Rattle.journal_laws.proofs.Innermost.{parent_within, within_both, within_itself, out_of}

pub same_from_option : (a b : Option ℕ) → same_option a b ≡ true → a ≡ b
same_from_option None None h = refl
same_from_option None (Some n) h = absurd (false≢true h)
same_from_option (Some m) None h = absurd (false≢true h)
same_from_option (Some m) (Some n) h = ap Some (eqb-true m n h)

-- p is live, and uses o
abbrev pub live_uses : Plan → ℕ → List Entry → ℕ → Bool
live_uses plan o past q = is_live past q && uses plan q o

-- what becomes of a place that is live and uses an object, where x says that it is the one that starts or ends

gained : (x s f u : Bool) → (x ≡ true → u ≡ false) → (((x || s) && not f) && u) ≡ ((s && not f) && u)
gained false s f u h = refl
gained true s f true h = absurd (false≢true (sym (h refl)))
gained true true true false h = refl
gained true true false false h = refl
gained true false true false h = refl
gained true false false false h = refl

lost : (x s f u : Bool) → ((s && not (x || f)) && u) ≡ cond x false ((s && not f) && u)
lost true true f u = refl
lost true false f u = refl
lost false s f u = refl

unlost : (x s f u : Bool) → (x ≡ true → u ≡ false) → ((s && not (x || f)) && u) ≡ ((s && not f) && u)
unlost false s f u h = refl
unlost true s f true h = absurd (false≢true (sym (h refl)))
unlost true true true false h = refl
unlost true true false false h = refl
unlost true false f false h = refl

module _ (plan : Plan) (tree : IsTree plan) where
  -- ---- how places come and go

  -- what is undone or has ended had started
  undoing_started_by : (past : List Entry) (k : Kind) (e : Entry) (p : ℕ)
      → (is_undoing past p ≡ true → has_started past p ≡ true) → Row k plan past (of_kind k e)
      → is_undoing (of_kind k e ∷ past) p ≡ true → has_started (of_kind k e ∷ past) p ≡ true
  undoing_started_by past kind.Start e p ih h w = or_right _ _ (ih w)
  undoing_started_by past kind.Undo e p ih h w =
      elim (or_cases (e.place == p) (is_undoing past p) w) [
        | inl x ↦ subst (λ a. has_started past a ≡ true) (eqb-true e.place p x) (live_of plan tree e.place past h.when).0
        | inr x ↦ ih x
      ]
  undoing_started_by past _ e p ih h w = ih w

  pub undoing_started : (past : List Entry) → LegalPast plan past → (p : ℕ) → is_undoing past p ≡ true → has_started past p ≡ true
  undoing_started [] h p w = absurd (false≢true w)
  undoing_started (e ∷ past) h p w = undoing_started_by past e.kind e p (undoing_started past h.0 p) h.1 w

  -- what ends is live
  pub end_live : (past : List Entry) (e : Entry) → LegalPast plan past → MayEnd plan past e → is_live past e.place ≡ true
  end_live past e legal h = by_undo (is_undoing past e.place) refl h.how
    where
      by_undo : (b : Bool) → is_undoing past e.place ≡ b → MatchBool b (EndsUndone plan past e) (EndsAgreed plan past e)
          → is_live past e.place ≡ true
      by_undo true u h = live_from e.place past (undoing_started past legal e.place u) h.lasts
      by_undo false u h = going_live e.place past h.goes

  ended_started_by : (past : List Entry) (k : Kind) (e : Entry) (p : ℕ) → LegalPast plan past
      → (has_ended past p ≡ true → has_started past p ≡ true) → Row k plan past (of_kind k e)
      → has_ended (of_kind k e ∷ past) p ≡ true → has_started (of_kind k e ∷ past) p ≡ true
  ended_started_by past kind.Start e p legal ih h w = or_right _ _ (ih w)
  ended_started_by past kind.End e p legal ih h w =
      elim (or_cases (e.place == p) (has_ended past p) w) [
        | inl x ↦
            subst (λ a. has_started past a ≡ true) (eqb-true e.place p x)
            (live_parts e.place past (end_live past (of_kind kind.End e) legal h)).0
        | inr x ↦ ih x
      ]
  ended_started_by past _ e p legal ih h w = ih w

  pub ended_started : (past : List Entry) → LegalPast plan past → (p : ℕ) → has_ended past p ≡ true → has_started past p ≡ true
  ended_started [] h p w = absurd (false≢true w)
  ended_started (e ∷ past) h p w = ended_started_by past e.kind e p h.0 (ended_started past h.0 p) h.1 w

  -- a place round a live one has a role that is busy there
  pub busy_round : (past : List Entry) → LegalPast plan past → (p q : ℕ) → is_live past q ≡ true
      → member p (around plan q) ≡ true → (t : ℕ) × IsBusy plan p t past
  busy_round past legal p q w m =
      let parts = live_parts q past w in
      let some = started_filled plan tree past legal q parts.0 in
      let deep = live_within plan tree past legal some.0 q some.1 parts.0 parts.1 in
      (some.0, by_place some.0 (inside plan past some.0) refl deep)
    where
      round_within : (r : ℕ) → is_within plan r q ≡ true → member p (around plan r) ≡ true
      round_within r d =
          elim (or_cases (r == q) (member q (around plan r)) d) [
            | inl x ↦ subst (λ a. member p (around plan a) ≡ true) (sym (eqb-true r q x)) m
            | inr x ↦ round_round plan tree q p r (around plan r) refl x m
          ]

      by_place : (t : ℕ) (o : Option ℕ) → inside plan past t ≡ o → in_within plan o q ≡ true → IsBusy plan p t past
      by_place t None here d = absurd (false≢true d)
      by_place t (Some r) here d =
          let busy : AllBusy plan t past (Some r) = subst (AllBusy plan t past) here (all_busy plan tree past legal t) in
          busy.1 p (round_within r d)

  -- ---- who holds an object

  -- p holds each object that it uses, where nothing that is live stands inside it
  pub holds_own : (past : List Entry) → (o p : ℕ)
      → ((q : ℕ) → live_uses plan o past q ≡ in_within plan (holder_of plan past o) q) → is_live past p ≡ true
      → uses plan p o ≡ true → ((r : ℕ) → is_live past r ≡ true → member p (around plan r) ≡ true → ⊥)
      → holder_of plan past o ≡ Some p
  holds_own past o p at w u alone = by_holder (holder_of plan past o) refl
    where
      by_holder : (h : Option ℕ) → holder_of plan past o ≡ h → h ≡ Some p
      by_holder None e = absurd (both_ways _ (at p ∙ ap (λ x. in_within plan x p) e) (and_from (is_live past p) (uses plan p o) w u))
      by_holder (Some r) e =
          let here : (q : ℕ) → live_uses plan o past q ≡ is_within plan r q = λ q. at q ∙ ap (λ x. in_within plan x q) e in
          let deep : is_within plan r p ≡ true = sym (here p) ∙ and_from (is_live past p) (uses plan p o) w u in
          elim (or_cases (r == p) (member p (around plan r)) deep) [
            | inl x ↦ ap Some (eqb-true r p x)
            | inr x ↦ absurd (alone r (and_parts (is_live past r) (uses plan r o) (here r ∙ within_itself plan tree r)).0 x)
          ]

  -- nothing live stands inside a place that ends
  ends_alone : (past : List Entry) (e : Entry) → LegalPast plan past → MayEnd plan past e → (r : ℕ)
      → is_live past r ≡ true → member e.place (around plan r) ≡ true → ⊥
  ends_alone past e legal h r w m =
      let some = busy_round past legal e.place r w m in
      not_ending plan tree e.place some.0 past e some.1 refl h

  -- a place that starts takes its objects from the place round it
  start_takes : (past : List Entry) (e : Entry) (o q : ℕ) → LegalPast plan past
      → MayStart plan past (of_kind kind.Start e) → live_uses plan o past q ≡ in_within plan (holder_of plan past o) q
      → live_uses plan o (of_kind kind.Start e ∷ past) q
      ≡ in_within plan (cond (uses plan e.place o) (Some e.place) (holder_of plan past o)) q
  start_takes past e o q legal h at = by_use (uses plan e.place o) refl
    where
      lasts : has_ended past e.place ≡ false
      lasts = false_from_ne_true _ (λ f. both_ways _ h.waits (ended_started past legal e.place f))

      free : uses plan e.place o ≡ true → holder_of plan past o ≡ parent plan e.place
      free u =
          same_from_option (holder_of plan past o) (parent plan e.place)
          (all_at (λ a. same_option (holder_of plan past a) (parent plan e.place))
          (objects_of plan e.place) o h.ready u)

      own : uses plan e.place o ≡ true → (e.place == q) ≡ true
          → ((((e.place == q) || has_started past q) && not (has_ended past q)) && uses plan q o)
          ≡ is_within plan e.place q
      own u x =
          let lasts_there : has_ended past q ≡ false = subst (λ a. has_ended past a ≡ false) (eqb-true e.place q x) lasts in
          let used : uses plan q o ≡ true = subst (λ a. uses plan a o ≡ true) (eqb-true e.place q x) u in
          rw (x, lasts_there, used) refl

      other : uses plan e.place o ≡ true → (e.place == q) ≡ false
          → ((((e.place == q) || has_started past q) && not (has_ended past q)) && uses plan q o)
          ≡ is_within plan e.place q
      other u x = rw x (at ∙ ap (λ a. in_within plan a q) (free u) ∙ parent_within plan tree e.place q)

      by_use : (b : Bool) → uses plan e.place o ≡ b
          → ((((e.place == q) || has_started past q) && not (has_ended past q)) && uses plan q o)
          ≡ in_within plan (cond b (Some e.place) (holder_of plan past o)) q
      by_use true u = elim (cases_Bool (e.place == q)) [ inl x ↦ own u x | inr x ↦ other u x ]
      by_use false u =
          gained (e.place == q) (has_started past q) (has_ended past q) (uses plan q o)
          (λ x. subst (λ a. uses plan a o ≡ false) (eqb-true e.place q x) u) ∙ at

  -- and gives them back at its end
  end_gives : (past : List Entry) (e : Entry) (o q : ℕ) → LegalPast plan past → MayEnd plan past (of_kind kind.End e)
      → ((r : ℕ) → live_uses plan o past r ≡ in_within plan (holder_of plan past o) r)
      → live_uses plan o (of_kind kind.End e ∷ past) q
      ≡ in_within plan (cond (uses plan e.place o) (parent plan e.place) (holder_of plan past o)) q
  end_gives past e o q legal h at = by_use (uses plan e.place o) refl
    where
      by_use : (b : Bool) → uses plan e.place o ≡ b
          → ((has_started past q && not ((e.place == q) || has_ended past q)) && uses plan q o)
          ≡ in_within plan (cond b (parent plan e.place) (holder_of plan past o)) q
      by_use true u =
          let had : holder_of plan past o ≡ Some e.place =
          holds_own past o e.place at (end_live past (of_kind kind.End e) legal h) u
          (ends_alone past (of_kind kind.End e) legal h) in
          lost (e.place == q) (has_started past q) (has_ended past q) (uses plan q o)
          ∙ ap (cond (e.place == q) false) (at q ∙ ap (λ a. in_within plan a q) had) ∙ out_of plan tree e.place q
          ∙ sym (parent_within plan tree e.place q)
      by_use false u =
          unlost (e.place == q) (has_started past q) (has_ended past q) (uses plan q o)
          (λ x. subst (λ a. uses plan a o ≡ false) (eqb-true e.place q x) u) ∙ at q

  holds_within_by : (past : List Entry) (k : Kind) (e : Entry) (o q : ℕ) → LegalPast plan past
      → ((r : ℕ) → live_uses plan o past r ≡ in_within plan (holder_of plan past o) r) → Row k plan past (of_kind k e)
      → live_uses plan o (of_kind k e ∷ past) q ≡ in_within plan (holder_of plan (of_kind k e ∷ past) o) q
  holds_within_by past kind.Start e o q legal ih h = start_takes past e o q legal h (ih q)
  holds_within_by past kind.End e o q legal ih h = end_gives past e o q legal h ih
  holds_within_by past _ e o q legal ih h = ih q

  -- the live places that use an object are its holder and those round it
  pub holds_within : (past : List Entry) → LegalPast plan past → (o q : ℕ)
      → live_uses plan o past q ≡ in_within plan (holder_of plan past o) q
  holds_within [] h o q = refl
  holds_within (e ∷ past) h o q = holds_within_by past e.kind e o q h.0 (holds_within past h.0 o) h.1

  innermost_holds : (past : List Entry) → LegalPast plan past → (o p : ℕ) (h : Option ℕ) → holder_of plan past o ≡ h
      → live_uses plan o past p ≡ true
      → ((q : ℕ) → is_live past q ≡ true → uses plan q o ≡ true → is_within plan p q ≡ true) → h ≡ Some p
  innermost_holds past legal o p None w l inner = absurd (both_ways _ (holds_within past legal o p ∙ ap (λ x. in_within plan x p) w) l)
  innermost_holds past legal o p (Some r) w l inner =
      let at : (q : ℕ) → live_uses plan o past q ≡ is_within plan r q = λ q. holds_within past legal o q ∙ ap (λ x. in_within plan x q) w in
      let own = and_parts (is_live past r) (uses plan r o) (at r ∙ within_itself plan tree r) in
      ap Some (within_both plan tree r p (sym (at p) ∙ l) (inner r own.0 own.1))

  holder_innermost : (past : List Entry) → LegalPast plan past → HolderIsInnermost plan past
  holder_innermost past legal o p = (
    λ w.
        let at : (q : ℕ) → live_uses plan o past q ≡ is_within plan p q =
        λ q. holds_within past legal o q ∙ ap (λ x. in_within plan x q) w in
        let own = and_parts (is_live past p) (uses plan p o) (at p ∙ within_itself plan tree p) in
        (own.0, own.1, λ q l u. sym (at q) ∙ and_from (is_live past q) (uses plan q o) l u),
    λ h. innermost_holds past legal o p (holder_of plan past o) refl (and_from (is_live past p) (uses plan p o) h.0 h.1) h.2,
  )

-- the holder of an object is the innermost of the live places that use it
pub holder_is_innermost : (plan : Plan) → IsTree plan → Holds HolderIsInnermost plan
holder_is_innermost plan tree past legal = holder_innermost plan tree past legal
