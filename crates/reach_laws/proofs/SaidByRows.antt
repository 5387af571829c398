-- What a role says in a place: where nothing is raised there, the verdict of its body; once something is resolved, its answer to that,
-- or undo where its handler was broken off.
use Rattle.std.proofs.Common.{◌≡◌, ℕ, ◌==◌, Bool, true, false, not, cond, ◌&&◌, ◌||◌, List, [], ◌∷◌, Some, None, Option, refl, sym, ap, ◌∙◌, subst, subst₂, inl, inr, ◌⊎◌, MatchOption, is_none}
use Rattle.std.specs.List.{list_any}
use Rattle.std.proofs.lemmas.Bool.{or_cases, not-true, false≢true, cases_Bool, false_from_ne_true, both_ways}
use Rattle.caa_base.specs.declared.written.entry.Entry.{Entry}
use Rattle.caa_base.specs.declared.written.entry.Kind.{Kind}
use Rattle.caa_base.specs.declared.written.entry.Kind.TheVariants as kind
use Rattle.caa_base.specs.declared.written.entry.Verdict.{Verdict}
use Rattle.caa_base.specs.declared.written.entry.Verdict.TheVariants as verdict
use Rattle.place_plan.specs.declared.drafts.draft_rows.Program.{Program}
use Rattle.place_plan.specs.Plans.PlanValue.{Plan}
use Rattle.place_plan.specs.Plans.Places.{role_row, body_of, handler_of}
use Rattle.place_plan.specs.RulesOfJournals.Entries.{is_in, is_by, has, has_by}
use Rattle.place_plan.specs.RulesOfJournals.Raising.{has_handled, is_raised, is_calm, is_hot, exception_resolved, exception_handled}
use Rattle.place_plan.specs.RulesOfJournals.Roles.{position, register, or_idle, program_in, program_of, next_step, next_raise, has_given_after, has_given, is_handling, was_refused_in_handler, verdict_at, verdict_of}
use Rattle.place_plan.specs.RulesOfJournals.Rules.{Row, SaysVerdict, final_verdict, unhandled_verdict, breaks_off, handler_verdict, verdict_due}
use Rattle.place_plan.specs.RulesOfJournals.Journals.{LegalPast}
use Rattle.journal_laws.specs.Laws.{Holds}
use Rattle.journal_laws.proofs.Playable.{IsPlayable}
use Rattle.journal_laws.proofs.Core.{Core}
use Rattle.caa_base.proofs.ListLemmas.{chosen}
use Rattle.place_plan.proofs.OnJournals.EntryKinds.{of_kind, both_same}
use Rattle.journal_laws.proofs.Newest.{stands_newest, newest_none}
use Rattle.journal_laws.proofs.Options.{some_apart, some_same, none_is}
use Rattle.journal_laws.proofs.Phases.{not_hot, not_calm}
use Rattle.journal_laws.proofs.Busy.{raised_stays}
use Rattle.journal_laws.proofs.Raised.{plain_calm}
use Rattle.reach_laws.specs.ReachedSteps.{is_raise, reached, can_break, is_endless, answer_by, answer_to, is_breakable, can_fail_at}
use Rattle.reach_laws.proofs.ListsAlone.{get_any}
use Rattle.reach_laws.proofs.StepsReached.{is_reached, has_no_raise, raise_step}
use Rattle.reach_laws.proofs.Unpassed.{unpassed, refused_breaks}

-- ---- what an entry says

says_back : (e : Entry) (v : Verdict) → SaysVerdict e v → verdict_at e ≡ v
says_back e verdict.Done h = rw h.0 refl
says_back e (verdict.Signal x) h = rw (h.0, h.1) refl
says_back e verdict.Undo h = rw h.0 refl

due_is_said : (o : Option Verdict) (e : Entry) → MatchOption o ⊥ (SaysVerdict e) → o ≡ Some (verdict_at e)
due_is_said None e h = elim h [ ]
due_is_said (Some v) e h = ap Some (sym (says_back e v h))

-- who has said something has said it last
pub said_some : (past : List Entry) (p t : ℕ) → has_by kind.Verdict past p t ≡ true → (v : Verdict) × (verdict_of past p t ≡ Some v)
said_some [] p t h = absurd (false≢true h)
said_some (e ∷ past) p t h = by_test (is_by kind.Verdict p t e) h (said_some past p t)
  where
    by_test : (b : Bool) → b || has_by kind.Verdict past p t ≡ true
        → (has_by kind.Verdict past p t ≡ true → (v : Verdict) × (verdict_of past p t ≡ Some v))
        → (v : Verdict) × (cond b (Some (verdict_at e)) (verdict_of past p t) ≡ Some v)
    by_test true h ih = (verdict_at e, refl)
    by_test false h ih = ih h

-- ---- what is due

-- the final verdict is that of the program, which is done
final_parts : (plan : Plan) (past : List Entry) (p t : ℕ) (v : Verdict) → final_verdict plan past p t ≡ Some v
    → (next_step plan past p t ≡ None) × ((program_of plan past p t).verdict ≡ v)
final_parts plan past p t v h =
    elim (chosen (is_none (next_step plan past p t)) (Some (program_of plan past p t).verdict) None (Some v) h) [
      | inl z ↦ (none_is (next_step plan past p t) z.0, some_same z.1)
      | inr z ↦ absurd (some_apart z.1)
    ]

-- where nothing is raised, the final verdict is due
calm_due : (plan : Plan) (past : List Entry) (p t : ℕ) (v : Verdict) → is_raised plan past p ≡ false
    → verdict_due plan past p t ≡ Some v → final_verdict plan past p t ≡ Some v
calm_due plan past p t v r h =
    elim (chosen (is_calm plan past p) (cond (has_given plan past p t) None (final_verdict plan past p t)) _ (Some v) h) [
      | inl a ↦ elim (chosen (has_given plan past p t) None (final_verdict plan past p t) (Some v) a.1) [
        | inl b ↦ absurd (some_apart b.1)
        | inr b ↦ b.1
      ]
      | inr a ↦ elim (chosen (not (is_hot plan past p)) None _ (Some v) a.1) [
        | inl b ↦ absurd (some_apart b.1)
        | inr b ↦ absurd (both_ways _ b.0 (ap not (not_hot plan past p r)))
      ]
    ]

-- and where something is, what the handler says, or, without one, undo
hot_due : (plan : Plan) (past : List Entry) (p t : ℕ) (v : Verdict) → is_raised plan past p ≡ true
    → verdict_due plan past p t ≡ Some v
    → ((has_handled past p t ≡ true) × (handler_verdict plan past p t ≡ Some v))
    ⊎ (unhandled_verdict plan p t (exception_resolved past p) ≡ Some v)
hot_due plan past p t v r h =
    elim (chosen (is_calm plan past p) (cond (has_given plan past p t) None (final_verdict plan past p t)) _ (Some v) h) [
      | inl a ↦ absurd (both_ways _ (not_calm plan past p r) a.0)
      | inr a ↦ elim (chosen (not (is_hot plan past p)) None _ (Some v) a.1) [
        | inl b ↦ absurd (some_apart b.1)
        | inr b ↦ elim (chosen (has_handled past p t) _ _ (Some v) b.1) [
          | inl d ↦ elim (chosen (is_handling past p t) (handler_verdict plan past p t) None (Some v) d.1) [
            | inl f ↦ inl (d.0, f.1)
            | inr f ↦ absurd (some_apart f.1)
          ]
          | inr d ↦ elim (chosen (has_given plan past p t) None (unhandled_verdict plan p t (exception_resolved past p)) (Some v) d.1) [
            | inl f ↦ absurd (some_apart f.1)
            | inr f ↦ inr f.1
          ]
        ]
      ]
    ]

-- ---- what was said

-- in p, where nothing is raised, t said the verdict of its body, which comes to an end
abbrev pub SaidCalmly : Plan → List Entry → ℕ → ℕ → Verdict → Type 0
SaidCalmly plan past p t v = (v ≡ (body_of plan p t).verdict) × (is_endless (body_of plan p t) ≡ false)

-- to the exception x the verdict is the answer of the role, or undo, where its handler can be broken off
abbrev pub Answers : Plan → ℕ → ℕ → ℕ → Verdict → Type 0
Answers plan p t x v = (v ≡ answer_to x (role_row plan p t)) ⊎ ((v ≡ verdict.Undo) × (can_fail_at x (role_row plan p t) ≡ true))

-- p is resolved, and the verdict answers that
abbrev pub SaidAfter : Plan → List Entry → ℕ → ℕ → Verdict → Type 0
SaidAfter plan past p t v = (x : ℕ) × (exception_resolved past p ≡ Some x) × Answers plan p t x v

-- the program of a handler that there is
handler_is : (o : Option Program) → is_none o ≡ false → (g : Program) × (o ≡ Some g)
handler_is None h = absurd (false≢true (sym h))
handler_is (Some g) h = (g, refl)

module _ (plan : Plan) (playable : IsPlayable plan) (core : Holds Core plan) where
  -- a program that somebody has done has an end
  ends : (past : List Entry) → LegalPast plan past → (p t : ℕ) → next_step plan past p t ≡ None
      → is_endless (program_of plan past p t) ≡ false
  ends past legal p t last =
      has_no_raise (program_of plan past p t).steps (position plan past p t) (unpassed plan playable core past legal p t) last

  -- ---- where nothing is raised

  says_calmly : (past : List Entry) (p t : ℕ) (v : Verdict) → LegalPast plan past → is_raised plan past p ≡ false
      → verdict_due plan past p t ≡ Some v → SaidCalmly plan past p t v
  says_calmly past p t v legal r due =
      let parts = final_parts plan past p t v (calm_due plan past p t v r due) in
      let body : program_of plan past p t ≡ body_of plan p t =
      ap (program_in plan p t)
      (newest_none (is_by kind.Handle p t) past (plain_calm plan past p t (core past legal).raises r).1) in (
        sym parts.1 ∙ ap (λ (g : Program). g.verdict) body,
        subst (λ g. is_endless g ≡ false) body (ends past legal p t parts.0),
      )

  calmly_by : (past : List Entry) (k : Kind) (e : Entry) (p t : ℕ) (v : Verdict) → LegalPast plan past
      → is_raised plan past p ≡ false → (verdict_of past p t ≡ Some v → SaidCalmly plan past p t v)
      → Row k plan past (of_kind k e) → verdict_of (of_kind k e ∷ past) p t ≡ Some v → SaidCalmly plan past p t v
  calmly_by past kind.Verdict e p t v legal r ih h w =
      elim (chosen ((e.place == p) && (e.by == t)) (Some (verdict_at e)) (verdict_of past p t) (Some v) w) [
        | inl x ↦
            let same = both_same e.place p e.by t x.0 in
            let due : verdict_due plan past e.place e.by ≡ Some (verdict_at e) =
            due_is_said (verdict_due plan past e.place e.by) (of_kind kind.Verdict e) h.due in
            says_calmly past p t v legal r
            (subst₂ (λ a b. verdict_due plan past a b ≡ Some (verdict_at e)) same.0 same.1 due ∙ x.1)
        | inr x ↦ ih x.1
      ]
  calmly_by past _ e p t v legal r ih h w = ih w

  -- where nothing is raised, who has said something has said the verdict of its body
  pub said_calmly : (past : List Entry) → LegalPast plan past → (p t : ℕ) (v : Verdict) → is_raised plan past p ≡ false
      → verdict_of past p t ≡ Some v → SaidCalmly plan past p t v
  said_calmly [] h p t v r w = absurd (some_apart w)
  said_calmly (e ∷ past) h p t v r w =
      let cooler : is_raised plan past p ≡ false = false_from_ne_true _ (λ z. both_ways _ r (raised_stays plan p e past z)) in
      calmly_by past e.kind e p t v h.0 cooler (said_calmly past h.0 p t v cooler) h.1 w

  -- ---- once something is resolved

  -- a handler that is broken off can be, or nobody comes to its end
  breaks : (past : List Entry) (p t x : ℕ) (g : Program) → LegalPast plan past → program_of plan past p t ≡ g
      → handler_of plan p t x ≡ Some g → breaks_off plan past p t ≡ true → Answers plan p t x verdict.Undo
  breaks past p t x g legal own has h =
      elim (or_cases (was_refused_in_handler past p t) (not (is_none (next_raise plan past p t))) h) [
        | inl w ↦ inr (refl, broken (refused_breaks plan playable core past legal p t w))
        | inr w ↦ by_raise (next_raise plan past p t) refl (not-true _ w)
      ]
    where
      broken : list_any can_break (reached (program_of plan past p t).steps) ≡ true → can_fail_at x (role_row plan p t) ≡ true
      broken w =
          ap is_breakable has
          ∙ subst (λ (z : Program). list_any can_break (reached z.steps) ≡ true) own w

      by_step : (y : ℕ) → next_raise plan past p t ≡ Some y → Answers plan p t x verdict.Undo
      by_step y w =
          let raising = raise_step (next_step plan past p t) (register plan past p t) y w in
          elim raising.2.1 [
            | inl z ↦
                let endless : is_endless g ≡ true =
                subst (λ (q : Program). list_any is_raise q.steps ≡ true) own
                (get_any is_raise (program_of plan past p t).steps (position plan past p t) raising.0 raising.1 z) in
                inl (sym (ap answer_by has ∙ rw endless refl))
            | inr z ↦
                inr (
                  refl,
                  broken (is_reached can_break (program_of plan past p t).steps (position plan past p t) raising.0
                      (unpassed plan playable core past legal p t) raising.1 z),
                )
          ]

      by_raise : (o : Option ℕ) → next_raise plan past p t ≡ o → is_none o ≡ false → Answers plan p t x verdict.Undo
      by_raise None w n = absurd (false≢true (sym n))
      by_raise (Some y) w n = by_step y w

  handler_says : (past : List Entry) (p t x : ℕ) (v : Verdict) → LegalPast plan past → exception_resolved past p ≡ Some x
      → has_handled past p t ≡ true → handler_verdict plan past p t ≡ Some v → Answers plan p t x v
  handler_says past p t x v legal resolution handled h =
      elim (chosen (breaks_off plan past p t) (Some verdict.Undo) (final_verdict plan past p t) (Some v) h) [
        | inl z ↦ subst (Answers plan p t x) (some_same z.1) (breaks past p t x has.0 legal own has.1 z.0)
        | inr z ↦
            let parts = final_parts plan past p t v z.1 in
            let ended : is_endless has.0 ≡ false = subst (λ g. is_endless g ≡ false) own (ends past legal p t parts.0) in
            let says : v ≡ has.0.verdict = sym parts.1 ∙ ap (λ (g : Program). g.verdict) own in
            inl (says ∙ sym (ap answer_by has.1 ∙ rw ended refl))
      ]
    where
      some : (y : ℕ) × (exception_handled past p t ≡ Some y)
      some = stands_newest (is_by kind.Handle p t) past handled

      kept : (exception_resolved past p ≡ Some some.0) × (is_none (handler_of plan p t some.0) ≡ false)
      kept = (core past legal).raises.handles p t some.0 some.1

      one : some.0 ≡ x
      one = some_same (sym kept.0 ∙ resolution)

      has : (g : Program) × (handler_of plan p t x ≡ Some g)
      has = handler_is (handler_of plan p t x) (subst (λ y. is_none (handler_of plan p t y) ≡ false) one kept.1)

      own : program_of plan past p t ≡ has.0
      own = ap (program_in plan p t) (some.1 ∙ ap Some one) ∙ ap or_idle has.1

  unhandled_says : (p t x : ℕ) (v : Verdict) → unhandled_verdict plan p t (Some x) ≡ Some v → Answers plan p t x v
  unhandled_says p t x v h =
      elim (chosen (is_none (handler_of plan p t x)) (Some verdict.Undo) None (Some v) h) [
        | inl z ↦ inl (sym (some_same z.1) ∙ sym (ap answer_by (none_is (handler_of plan p t x) z.0)))
        | inr z ↦ absurd (some_apart z.1)
      ]

  says_after : (past : List Entry) (p t : ℕ) (v : Verdict) → LegalPast plan past → has kind.Resolve past p ≡ true
      → verdict_due plan past p t ≡ Some v → SaidAfter plan past p t v
  says_after past p t v legal resolved due =
      let some = stands_newest (is_in kind.Resolve p) past resolved in
      let raised = ((core past legal).raises.resolves p some.0 some.1).1 in (
        some.0,
        some.1,
        elim (hot_due plan past p t v raised due) [
          | inl z ↦ handler_says past p t some.0 v legal some.1 z.0 z.1
          | inr z ↦ unhandled_says p t some.0 v (ap (unhandled_verdict plan p t) (sym some.1) ∙ z)
        ],
      )

  after_by : (past : List Entry) (k : Kind) (e : Entry) (p t : ℕ) (v : Verdict) → LegalPast plan past
      → (has_given_after past p t ≡ true → verdict_of past p t ≡ Some v → SaidAfter plan past p t v)
      → Row k plan past (of_kind k e) → has_given_after (of_kind k e ∷ past) p t ≡ true
      → verdict_of (of_kind k e ∷ past) p t ≡ Some v → SaidAfter plan (of_kind k e ∷ past) p t v
  after_by past kind.Resolve e p t v legal ih h g w = elim (cases_Bool (e.place == p)) [
    | inl x ↦ absurd (false≢true (rw x at g))
    | inr x ↦ rw x (ih (rw x at g) w)
  ]
  after_by past kind.Verdict e p t v legal ih h g w = by_test ((e.place == p) && (e.by == t)) refl g w
    where
      by_test : (b : Bool) → ((e.place == p) && (e.by == t)) ≡ b
          → cond b (has kind.Resolve past p) (has_given_after past p t) ≡ true
          → cond b (Some (verdict_at e)) (verdict_of past p t) ≡ Some v → SaidAfter plan past p t v
      by_test true x g w =
          let same = both_same e.place p e.by t x in
          let due : verdict_due plan past e.place e.by ≡ Some (verdict_at e) =
          due_is_said (verdict_due plan past e.place e.by) (of_kind kind.Verdict e) h.due in
          says_after past p t v legal g
          (subst₂ (λ a b. verdict_due plan past a b ≡ Some (verdict_at e)) same.0 same.1 due ∙ w)
      by_test false x g w = ih g w
  after_by past _ e p t v legal ih h g w = ih g w

  -- who has said something since the place was resolved has answered that
  pub said_after : (past : List Entry) → LegalPast plan past → (p t : ℕ) (v : Verdict) → has_given_after past p t ≡ true
      → verdict_of past p t ≡ Some v → SaidAfter plan past p t v
  said_after [] h p t v g w = absurd (false≢true g)
  said_after (e ∷ past) h p t v g w = after_by past e.kind e p t v h.0 (said_after past h.0 p t v) h.1 g w
