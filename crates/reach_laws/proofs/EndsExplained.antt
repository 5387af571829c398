-- How a place ends is how its action can end.
use Rattle.std.proofs.Common.{◌≡◌, ℕ, ◌==◌, ◌<◌, ◌⊎◌, Bool, true, false, not, cond, ◌&&◌, List, [], ◌∷◌, map, length, Some, refl, sym, ap, ◌∙◌, subst, arith, inl, inr, MatchBool}
use Rattle.std.proofs.lemmas.Bool.{and_parts, or_cases, or_parts, eqb-true, false≢true, cases_Bool, both_ways, not_from_false}
use Rattle.cover_table.specs.Cover.{IsLeastCover}
use Rattle.caa_base.specs.declared.written.entry.Entry.{Entry}
use Rattle.caa_base.specs.declared.written.entry.Kind.{Kind}
use Rattle.caa_base.specs.declared.written.entry.Kind.TheVariants as kind
use Rattle.caa_base.specs.declared.written.entry.Outcome.TheVariants as outcome
use Rattle.caa_base.specs.declared.written.entry.Verdict.{Verdict}
use Rattle.place_plan.specs.declared.drafts.draft_rows.ActionRow.{ActionRow}
use Rattle.place_plan.specs.declared.drafts.draft_rows.RoleRow.{RoleRow}
use Rattle.place_plan.specs.Plans.PlanValue.{Plan}
use Rattle.caa_base.specs.Written.Lists.{member, is_empty}
use Rattle.place_plan.specs.Plans.Places.{action_at, roles_of, role_row, objects_of, graph_at, interface_of}
use Rattle.place_plan.specs.RulesOfJournals.Entries.{is_in, has, has_by, newest}
use Rattle.place_plan.specs.RulesOfJournals.Whereabouts.{outcome_at, has_ended, is_undoing}
use Rattle.place_plan.specs.RulesOfJournals.Raising.{is_raised, exception_resolved}
use Rattle.place_plan.specs.RulesOfJournals.Objects.{is_tried, has_failed}
use Rattle.place_plan.specs.RulesOfJournals.Roles.{has_given, has_given_after, all_have_given, verdict_of, is_undo, wants_undo, signals, has_aborted}
use Rattle.place_plan.specs.RulesOfJournals.Rules.{Row, MayEnd, EndsUndone, EndsAgreed, SignalsLeast, undone_mark}
use Rattle.place_plan.specs.RulesOfJournals.Journals.{LegalPast}
use Rattle.journal_laws.specs.Laws.{Holds}
use Rattle.journal_laws.proofs.Playable.{IsPlayable}
use Rattle.journal_laws.proofs.Core.{Core}
use Rattle.caa_base.proofs.ListLemmas.{all_at, chosen, first_not_fails}
use Rattle.place_plan.proofs.OnJournals.EntryKinds.{of_kind}
use Rattle.journal_laws.proofs.Arrivals.{one_has}
use Rattle.journal_laws.proofs.Busy.{abort_doomed, not_given}
use Rattle.journal_laws.proofs.Newest.{stands_newest, given_resolved}
use Rattle.journal_laws.proofs.Options.{some_apart, some_same}
use Rattle.journal_laws.proofs.Outcome.{newest_any}
use Rattle.journal_laws.proofs.Phases.{going_parts}
use Rattle.journal_laws.proofs.Raised.{role_inside}
use Rattle.journal_laws.proofs.Said.{has_maker}
use Rattle.reach_laws.specs.ReachedSteps.{is_endless, answer_to, can_fail_at, ask_for_undo, all_signals, EndsBy}
use Rattle.reach_laws.specs.CanCome.{action_of, bodies_end, CanBeResolved, CanEnd, calmly, by_answers, broken_off, not_taken_back}
use Rattle.reach_laws.specs.Reach.{action_number}
use Rattle.reach_laws.proofs.ListsAlone.{any_at, any_is, some_there}
use Rattle.reach_laws.proofs.Planned.{IsPlanned}
use Rattle.reach_laws.proofs.RoleRows.{AllSay, all_signal, all_ask, role_any, role_all, role_asks}
use Rattle.reach_laws.proofs.SaidByRows.{Answers, said_some, said_calmly, said_after}

-- ---- what the mark of an End says

-- an End by agreement says what the verdicts come to
agreed_is : (plan : Plan) (e : Entry) (verdicts : List Verdict) (xs : List ℕ) → xs ≡ all_signals verdicts
    → ask_for_undo verdicts ≡ false → SignalsLeast plan e xs → EndsBy (interface_of plan e.place) verdicts (outcome_at e)
agreed_is plan e verdicts [] same kept h =
    let how : outcome_at e ≡ outcome.Commit = rw h.0 refl in
    subst (EndsBy (interface_of plan e.place) verdicts) (sym how) (kept, sym same)
agreed_is plan e verdicts (x ∷ xs) same kept h =
    let how : outcome_at e ≡ outcome.Signal e.arg = rw h.0 refl in
    let rest =
    subst (λ ys. (0 < length ys) × IsLeastCover (interface_of plan e.place) ys e.arg) same (omega arith, h.1) in
    subst (EndsBy (interface_of plan e.place) verdicts) (sym how) (kept, rest.0, rest.1)

-- an End after an undo says failed where a restore was refused, else aborted where the roles gave up, else undone
undone_is : (past : List Entry) (e : Entry) → e.mark ≡ undone_mark past e.place
    → ((outcome_at e ≡ outcome.Failed) × (has_failed past e.place ≡ true))
    ⊎ (outcome_at e ≡ cond (has kind.Abort past e.place) outcome.Aborted outcome.Undone)
undone_is past e m = by_failure (has_failed past e.place) (has kind.Abort past e.place) refl m
  where
    by_failure : (b c : Bool) → has_failed past e.place ≡ b → e.mark ≡ cond b 4 (cond c 3 2)
        → ((outcome_at e ≡ outcome.Failed) × (has_failed past e.place ≡ true))
        ⊎ (outcome_at e ≡ cond c outcome.Aborted outcome.Undone)
    by_failure true c f m = inl (rw m refl, f)
    by_failure false true f m = inr (rw m refl)
    by_failure false false f m = inr (rw m refl)

-- a place in which a restore was refused has an object
failed_by : (plan : Plan) (past : List Entry) (k : Kind) (e : Entry) (p : ℕ)
    → (has_failed past p ≡ true → is_empty (objects_of plan p) ≡ false) → Row k plan past (of_kind k e)
    → has_failed (of_kind k e ∷ past) p ≡ true → is_empty (objects_of plan p) ≡ false
failed_by plan past kind.Restore e p ih h w = elim (or_cases ((e.place == p) && (e.mark == 1)) (has_failed past p) w) [
  | inl x ↦
      subst (λ a. is_empty (objects_of plan a) ≡ false) (eqb-true e.place p (and_parts (e.place == p) (e.mark == 1) x).0)
      (some_there (objects_of plan e.place) e.arg
      (first_not_fails (is_tried past e.place) (objects_of plan e.place) e.arg h.least).1)
  | inr x ↦ ih x
]
failed_by plan past _ e p ih h w = ih w

failed_has : (plan : Plan) (past : List Entry) → LegalPast plan past → (p : ℕ) → has_failed past p ≡ true
    → is_empty (objects_of plan p) ≡ false
failed_has plan [] h p w = absurd (false≢true w)
failed_has plan (e ∷ past) h p w = failed_by plan past e.kind e p (failed_has plan past h.0 p) h.1 w

-- where nobody gave up in a longer past, nobody did before
pub spared_before : (past : List Entry) (k : Kind) (e : Entry) (p : ℕ) → has kind.Abort (of_kind k e ∷ past) p ≡ false
    → has kind.Abort past p ≡ false
spared_before past kind.Abort e p n = (or_parts (e.place == p) (has kind.Abort past p) n).1
spared_before past _ e p n = n

-- who has given its verdict has said one
given_said : (plan : Plan) (past : List Entry) (p t : ℕ) → has_given plan past p t ≡ true
    → (v : Verdict) × (verdict_of past p t ≡ Some v)
given_said plan past p t g = elim (cases_Bool (has_by kind.Verdict past p t)) [
  | inl w ↦ said_some past p t w
  | inr n ↦ absurd (both_ways _ (not_given plan p t past n) g)
]

module _ (plan : Plan) (playable : IsPlayable plan) (core : Holds Core plan) (planned : IsPlanned plan) where
  -- ---- what can be resolved

  -- whatever p is resolved to can be resolved in its action
  abbrev pub IsResolvable : List Entry → ℕ → Type 0
  IsResolvable past p = (x : ℕ) → exception_resolved past p ≡ Some x → CanBeResolved plan (action_number plan p) x

  -- where nothing is raised, all have said the verdicts of their bodies, which come to their ends
  record Calm (past : List Entry) (p : ℕ) : Type 0 where
    pub say : AllSay plan planned past p (λ (role : RoleRow). role.body.verdict)
    pub end : bodies_end (action_at plan p) ≡ true

  calm_say : (past : List Entry) → LegalPast plan past → (p : ℕ) → is_raised plan past p ≡ false
      → all_have_given plan past p ≡ true → Calm past p
  calm_say past legal p r all = record {
    say = λ t m. let said = own t m in said.1 ∙ ap Some (said_calmly plan playable core past legal p t said.0 r said.1).0;
    end = role_all plan planned p (λ (role : RoleRow). not (is_endless role.body)) (λ t m.
        let said = own t m in not_from_false _ (said_calmly plan playable core past legal p t said.0 r said.1).1);
  }
    where
      own : (t : ℕ) → member t (roles_of plan p) ≡ true → (v : Verdict) × (verdict_of past p t ≡ Some v)
      own t m = given_said plan past p t (all_at (has_given plan past p) (roles_of plan p) t all m)

  -- once x is resolved, each has answered that
  abbrev AllAnswer : List Entry → ℕ → ℕ → Type 0
  AllAnswer past p x =
      (t : ℕ) → member t (roles_of plan p) ≡ true → (v : Verdict) × (verdict_of past p t ≡ Some v) × Answers plan p t x v

  given_after : (past : List Entry) (p t : ℕ) → is_raised plan past p ≡ true → all_have_given plan past p ≡ true
      → member t (roles_of plan p) ≡ true → has_given_after past p t ≡ true
  given_after past p t r all m = rw r at (all_at (has_given plan past p) (roles_of plan p) t all m)

  all_answer : (past : List Entry) → LegalPast plan past → (p x : ℕ) → is_raised plan past p ≡ true
      → all_have_given plan past p ≡ true → exception_resolved past p ≡ Some x → AllAnswer past p x
  all_answer past legal p x r all w t m =
      let said = given_said plan past p t (all_at (has_given plan past p) (roles_of plan p) t all m) in
      let after = said_after plan playable core past legal p t said.0 (given_after past p t r all m) said.1 in
      (said.0, said.1, subst (λ y. Answers plan p t y said.0) (some_same (sym after.1 ∙ w)) after.2)

  -- a place in which something was raised, and in which all have given their verdicts, is resolved
  resolved_to : (past : List Entry) (p t : ℕ) → is_raised plan past p ≡ true → all_have_given plan past p ≡ true
      → member t (roles_of plan p) ≡ true → (x : ℕ) × (exception_resolved past p ≡ Some x)
  resolved_to past p t r all m = stands_newest (is_in kind.Resolve p) past (given_resolved p t past (given_after past p t r all m))

  -- ---- where all agree, and nobody asks for an undo

  -- what all say by their rows, the place ends by
  ends_by : (past : List Entry) (e : Entry) (t : ℕ) (f : RoleRow → Verdict) → member t (roles_of plan e.place) ≡ true
      → AllSay plan planned past e.place f → EndsAgreed plan past e
      → EndsBy (graph_at plan (action_of plan (action_number plan e.place)).interface)
      (map f (action_of plan (action_number plan e.place)).roles) (outcome_at e)
  ends_by past e t f m say h =
      subst (λ (a : ActionRow). EndsBy (graph_at plan a.interface) (map f a.roles) (outcome_at e)) (planned.actions e.place t m)
      (agreed_is plan e (map f (action_at plan e.place).roles) (signals past e.place (roles_of plan e.place))
      (all_signal plan planned past e.place f say) (sym (all_ask plan planned past e.place f say) ∙ h.kept) h.outcome)

  -- where nobody asks for an undo, no answer is one but that of the row
  no_undo : (past : List Entry) (p x : ℕ) → wants_undo plan past p ≡ false → AllAnswer past p x
      → AllSay plan planned past p (answer_to x)
  no_undo past p x kept answer t m = by_answer (answer t m).0 (answer t m).1 (answer t m).2
    where
      by_answer : (v : Verdict) → verdict_of past p t ≡ Some v → Answers plan p t x v
          → verdict_of past p t ≡ Some (answer_to x (role_row plan p t))
      by_answer v said (inl same) = said ∙ ap Some same
      by_answer v said (inr broken) =
          let asks : is_undo (verdict_of past p t) ≡ true = ap is_undo (said ∙ ap Some broken.0) in
          absurd (both_ways _ kept (any_at (λ t. is_undo (verdict_of past p t)) (roles_of plan p) t m asks))

  agreed_can : (past : List Entry) (e : Entry) (t : ℕ) → LegalPast plan past → member t (roles_of plan e.place) ≡ true
      → IsResolvable past e.place → EndsAgreed plan past e → CanEnd plan (action_number plan e.place) (outcome_at e)
  agreed_can past e t legal m can h = elim (cases_Bool (is_raised plan past e.place)) [
    | inl r ↦
        let x = resolved_to past e.place t r h.agreed m in
        by_answers (action_number plan e.place) x.0 (outcome_at e) (can x.0 x.1)
        (ends_by past e t (answer_to x.0) m
        (no_undo past e.place x.0 h.kept (all_answer past legal e.place x.0 r h.agreed x.1)) h)
    | inr r ↦
        let calm = calm_say past legal e.place r h.agreed in
        calmly (action_number plan e.place) (outcome_at e)
        (subst (λ (a : ActionRow). bodies_end a ≡ true) (planned.actions e.place t m) calm.end)
        (ends_by past e t (λ (role : RoleRow). role.body.verdict) m calm.say h)
  ]

  -- ---- where one asks for it

  asked_can : (past : List Entry) (p : ℕ) → LegalPast plan past → IsResolvable past p → all_have_given plan past p ≡ true
      → wants_undo plan past p ≡ true → CanEnd plan (action_number plan p) outcome.Undone
  asked_can past p legal can all wants = by_raised (is_raised plan past p) refl
    where
      asker : (t : ℕ) × (member t (roles_of plan p) ≡ true) × (is_undo (verdict_of past p t) ≡ true)
      asker = any_is (λ t. is_undo (verdict_of past p t)) (roles_of plan p) wants

      asks : (f : RoleRow → Verdict) → ask_for_undo (map f (action_at plan p).roles) ≡ true
          → ask_for_undo (map f (action_of plan (action_number plan p)).roles) ≡ true
      asks f h = subst (λ (a : ActionRow). ask_for_undo (map f a.roles) ≡ true) (planned.actions p asker.0 asker.1) h

      by_answer : (x : ℕ) → exception_resolved past p ≡ Some x → (v : Verdict) → verdict_of past p asker.0 ≡ Some v
          → Answers plan p asker.0 x v → CanEnd plan (action_number plan p) outcome.Undone
      by_answer x w v said (inl same) =
          let undo : is_undo (Some (answer_to x (role_row plan p asker.0))) ≡ true =
          subst (λ o. is_undo o ≡ true) (said ∙ ap Some same) asker.2 in
          by_answers (action_number plan p) x outcome.Undone (can x w)
          (asks (answer_to x) (role_asks plan planned p asker.0 (answer_to x) asker.1 undo))
      by_answer x w v said (inr broken) =
          broken_off (action_number plan p) x (can x w)
          (role_any plan planned p asker.0 (can_fail_at x) asker.1 broken.1)

      by_raised : (b : Bool) → is_raised plan past p ≡ b → CanEnd plan (action_number plan p) outcome.Undone
      by_raised true r =
          let x = resolved_to past p asker.0 r all asker.1 in
          let answer = all_answer past legal p x.0 r all x.1 asker.0 asker.1 in
          by_answer x.0 x.1 answer.0 answer.1 answer.2
      by_raised false r =
          let calm = calm_say past legal p r all in
          calmly (action_number plan p) outcome.Undone
          (subst (λ (a : ActionRow). bodies_end a ≡ true) (planned.actions p asker.0 asker.1) calm.end)
          (asks (λ (role : RoleRow). role.body.verdict)
          (sym (all_ask plan planned past p (λ (role : RoleRow). role.body.verdict) calm.say) ∙ wants))

  -- ---- an End

  -- a place in which nobody gives up ends as its action can
  pub end_can : (past : List Entry) (e : Entry) → LegalPast plan past → IsResolvable past e.place → MayEnd plan past e
      → has kind.Abort past e.place ≡ false → CanEnd plan (action_number plan e.place) (outcome_at e)
  end_can past e legal can h spared = by_undo (is_undoing past e.place) refl h.how
    where
      role : member e.by (roles_of plan e.place) ≡ true
      role = role_inside plan playable.tree past legal e.by e.place h.here

      undone : is_undoing past e.place ≡ true → CanEnd plan (action_number plan e.place) outcome.Undone
      undone u = elim ((core past legal).says.undoing e.place u) [
        | inl all ↦
            absurd (both_ways _ spared (one_has kind.Abort past e.place e.by
            (all_at (has_aborted past e.place) (roles_of plan e.place) e.by all role)))
        | inr said ↦ asked_can past e.place legal can said.1 said.2
      ]

      by_mark : is_undoing past e.place ≡ true
          → ((outcome_at e ≡ outcome.Failed) × (has_failed past e.place ≡ true))
          ⊎ (outcome_at e ≡ cond (has kind.Abort past e.place) outcome.Aborted outcome.Undone)
          → CanEnd plan (action_number plan e.place) (outcome_at e)
      by_mark u (inl w) =
          subst (CanEnd plan (action_number plan e.place)) (sym w.0)
          (not_taken_back (action_number plan e.place) (undone u)
          (subst (λ (a : ActionRow). is_empty a.objects ≡ false) (planned.actions e.place e.by role)
          (failed_has plan past legal e.place w.1)))
      by_mark u (inr w) = subst (CanEnd plan (action_number plan e.place)) (sym (rw spared at w)) (undone u)

      by_undo : (b : Bool) → is_undoing past e.place ≡ b → MatchBool b (EndsUndone plan past e) (EndsAgreed plan past e)
          → CanEnd plan (action_number plan e.place) (outcome_at e)
      by_undo true u how = by_mark u (undone_is past e how.mark)
      by_undo false u how = agreed_can past e e.by legal role can how

  -- ---- where the roles give up

  -- the place ends aborted, or failed where it has an object
  abbrev pub IsGivenUp : ℕ → Entry → Type 0
  IsGivenUp p e = (outcome_at e ≡ outcome.Aborted) ⊎ ((outcome_at e ≡ outcome.Failed) × (is_empty (objects_of plan p) ≡ false))

  end_given_up : (past : List Entry) (e : Entry) → LegalPast plan past → MayEnd plan past e → has kind.Abort past e.place ≡ true
      → IsGivenUp e.place e
  end_given_up past e legal h gave = by_undo (is_undoing past e.place) h.how
    where
      by_mark : ((outcome_at e ≡ outcome.Failed) × (has_failed past e.place ≡ true))
          ⊎ (outcome_at e ≡ cond (has kind.Abort past e.place) outcome.Aborted outcome.Undone) → IsGivenUp e.place e
      by_mark (inl w) = inr (w.0, failed_has plan past legal e.place w.1)
      by_mark (inr w) = inl (rw gave at w)

      by_undo : (b : Bool) → MatchBool b (EndsUndone plan past e) (EndsAgreed plan past e) → IsGivenUp e.place e
      by_undo true how = by_mark (undone_is past e how.mark)
      by_undo false how =
          let some = has_maker kind.Abort e.place past gave in
          absurd (both_ways _ how.spared (abort_doomed plan playable.tree past legal e.place some.0 some.1))

  given_up_by : (past : List Entry) (k : Kind) (e : Entry) (p : ℕ) (f : Entry) → LegalPast plan past
      → (newest (is_in kind.End p) past ≡ Some f → has kind.Abort past p ≡ true → IsGivenUp p f)
      → Row k plan past (of_kind k e) → newest (is_in kind.End p) (of_kind k e ∷ past) ≡ Some f
      → has kind.Abort (of_kind k e ∷ past) p ≡ true → IsGivenUp p f
  given_up_by past kind.End e p f legal ih h w gave =
      elim (chosen (e.place == p) (Some (of_kind kind.End e)) (newest (is_in kind.End p) past) (Some f) w) [
        | inl x ↦
            let here : e.place ≡ p = eqb-true e.place p x.0 in
            subst (IsGivenUp p) (some_same x.1)
            (subst (λ a. IsGivenUp a (of_kind kind.End e)) here
            (end_given_up past (of_kind kind.End e) legal h (subst (λ a. has kind.Abort past a ≡ true) (sym here) gave)))
        | inr x ↦ ih x.1 gave
      ]
  given_up_by past kind.Abort e p f legal ih h w gave = elim (or_cases (e.place == p) (has kind.Abort past p) gave) [
    | inl x ↦
        let lasts : has_ended past p ≡ false =
        subst (λ a. has_ended past a ≡ false) (eqb-true e.place p x) (going_parts past e.place h.when).lasts in
        absurd (both_ways _ lasts (newest_any (is_in kind.End p) past f w))
    | inr x ↦ ih w x
  ]
  given_up_by past _ e p f legal ih h w gave = ih w gave

  pub given_up : (past : List Entry) → LegalPast plan past → (p : ℕ) (f : Entry) → newest (is_in kind.End p) past ≡ Some f
      → has kind.Abort past p ≡ true → IsGivenUp p f
  given_up [] h p f w gave = absurd (some_apart w)
  given_up (e ∷ past) h p f w gave = given_up_by past e.kind e p f h.0 (given_up past h.0 p f) h.1 w gave
