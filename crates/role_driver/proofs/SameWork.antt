-- The work of a participant stays what it is while only others make entries.
use Rattle.std.proofs.Common.{◌≡◌, ℕ, ℤ, pos, ◌==◌, suc, cond, Bool, true, false, ◌&&◌, List, [], ◌∷◌, ◌++◌, reverse, filter, slice_get, Option, Some, None, refl, sym, ap, ◌∙◌, subst, append_assoc, append-nil}
use Rattle.std.proofs.lemmas.List.{append_cancel_left, reverse-append}
use Rattle.std.proofs.lemmas.List.Elements.{filter-append}
use Rattle.caa_base.specs.Written.Mixing.{Worked}
use Rattle.caa_base.specs.declared.written.entry.Entry.{Entry}
use Rattle.caa_base.specs.declared.written.entry.Kind.{Kind}
use Rattle.caa_base.specs.declared.written.entry.Kind.TheVariants as kind
use Rattle.place_plan.specs.declared.drafts.draft_rows.Step.{Step}
use Rattle.place_plan.specs.declared.drafts.draft_rows.Step.TheVariants as step
use Rattle.place_plan.specs.Plans.PlanValue.{Plan}
use Rattle.place_plan.specs.RulesOfJournals.Entries.{is_in, is_by}
use Rattle.place_plan.specs.RulesOfJournals.Whereabouts.{inside, inside_after}
use Rattle.place_plan.specs.RulesOfJournals.Raising.{exception_handled}
use Rattle.place_plan.specs.RulesOfJournals.Roles.{position, register, program_in, next_step, advances, gives_value}
use Rattle.place_plan.specs.RulesOfJournals.Rules.{MayFollow, MayWork, Row}
use Rattle.place_plan.specs.RulesOfJournals.Machine.{Answers, work_entry}
use Rattle.place_plan.specs.declared.rules.machine.Answer.TheVariants as answer
use Rattle.action_manager.specs.OwnEntries.{Journal, entries_by}
use Rattle.action_manager.specs.Stepping.{GrowsWithout}

-- what t does is the same after both pasts
record IsAsFar (plan : Plan) (past later : List Entry) (t : ℕ) : Type 0 where
  pub inside : inside plan later t ≡ inside plan past t
  pub handled : (p : ℕ) → exception_handled later p t ≡ exception_handled past p t
  pub position : (p : ℕ) → position plan later p t ≡ position plan past p t
  pub register : (p : ℕ) → register plan later p t ≡ register plan past p t

module _ (plan : Plan) (past : List Entry) (t : ℕ) where
  -- an entry of another changes nothing of it
  inside_other : (e : Entry) (k : Kind) → (e.by == t) ≡ false → (was : Option ℕ) → inside_after plan k e.place (e.by == t) was ≡ was
  inside_other e kind.Arrive far was = ap (λ b. cond b (Some e.place) was) far
  inside_other e kind.Withdraw far was = ap (λ b. inside_after plan kind.Withdraw e.place b was) far
  inside_other e kind.Leave far was = ap (λ b. inside_after plan kind.Leave e.place b was) far
  inside_other e k far was = refl

  no_own : (b own : Bool) → own ≡ false → (b && own) ≡ false
  no_own true own far = far
  no_own false own far = refl

  one_other : (e : Entry) (later : List Entry) → (e.by == t) ≡ false → IsAsFar plan past later t → IsAsFar plan past (e ∷ later) t
  one_other e later far h =
      let not_by : (k : Kind) (p : ℕ) → is_by k p t e ≡ false = λ k p. no_own (is_in k p e) (e.by == t) far in
      record {
        inside = inside_other e e.kind far (inside plan later t) ∙ h.inside;
        handled = λ p. ap (λ b. cond b (Some e.arg) (exception_handled later p t)) (not_by kind.Handle p) ∙ h.handled p;
        position = λ p.
            ap (λ b. cond b 0 (cond (advances plan later p e e.kind && (e.by == t)) (suc (position plan later p t))
            (position plan later p t))) (not_by kind.Handle p)
            ∙ ap (λ b. cond b (suc (position plan later p t)) (position plan later p t))
            (no_own (advances plan later p e e.kind) (e.by == t) far)
            ∙ h.position p;
        register = λ p.
            ap (λ b. cond b (pos 0)
            (cond (gives_value e.kind && ((e.place == p) && (e.by == t))) e.value (register plan later p t))) (not_by kind.Handle p)
            ∙ ap (λ b. cond b e.value (register plan later p t)) (no_own (gives_value e.kind) _ (no_own (e.place == p) (e.by == t) far))
            ∙ h.register p;
      }

  -- nor do any number of them
  grown : (later more : List Entry) → filter (λ (e : Entry). e.by == t) more ≡ [] → IsAsFar plan past later t
      → IsAsFar plan past (reverse more ++ later) t
  grown later [] none h = h
  grown later (e ∷ more) none h = by (e.by == t) refl none (λ own gone. grown (e ∷ later) more gone (one_other e later own h))
    where
      by : (b : Bool) → (e.by == t) ≡ b → cond b (e ∷ filter (λ (e : Entry). e.by == t) more) (filter (λ (e : Entry). e.by == t) more) ≡ []
          → ((e.by == t) ≡ false → filter (λ (e : Entry). e.by == t) more ≡ [] → IsAsFar plan past (reverse more ++ e ∷ later) t)
          → IsAsFar plan past (reverse (e ∷ more) ++ later) t
      by true own gone rest = absurd cc
      by false own gone rest =
          subst (λ xs. IsAsFar plan past xs t)
          (sym (ap (λ xs. xs ++ later) (reverse-append (e ∷ []) more) ∙ append_assoc (reverse more) (e ∷ []) later)) (rest own gone)

-- what is added without entries of t
pub none_added : (t : ℕ) (old more : Journal) → entries_by t (old ++ more) ≡ entries_by t old → entries_by t more ≡ []
none_added t old more alone =
    append_cancel_left (entries_by t old) (entries_by t more) []
    (sym (filter-append (λ (e : Entry). e.by == t) old more) ∙ alone ∙ sym (append-nil (entries_by t old)))

as_far : (plan : Plan) (old before : Journal) (t : ℕ) → GrowsWithout old before t → IsAsFar plan (reverse old) (reverse before) t
as_far plan old before t h =
    let more = h.begins.0 in
    let none = none_added t old more (ap (entries_by t) h.begins.1 ∙ h.alone) in
    let here : IsAsFar plan (reverse old) (reverse old) t =
    record { inside = refl; handled = λ p. refl; position = λ p. refl; register = λ p. refl } in
    subst (λ xs. IsAsFar plan (reverse old) xs t) (sym (reverse-append old more) ∙ ap reverse h.begins.1)
    (grown plan (reverse old) t (reverse old) more none here)

some_is : {A : Type 0} (x y : A) → Some x ≡ Some y → x ≡ y
some_is x y e = cc

work_is : (m n : ℕ) → ◌≡◌ {A = Option Step} (Some (step.Work m)) (Some (step.Work n)) → m ≡ n
work_is m n e = cc

-- where t was asked for work in p, a work entry of its is made in p
pub work_place : (plan : Plan) (old before : Journal) (t p k : ℕ) (from : ℤ) (e : Entry)
    → MayFollow plan (reverse old) (work_entry p t k from)
    → GrowsWithout old before t → MayFollow plan (reverse before) e → e.kind ≡ kind.Work → e.by ≡ t → e.place ≡ p
work_place plan old before t p k from e may h follows is own =
    let w : MayWork plan (reverse before) e = subst (λ (k : Kind). Row k plan (reverse before) e) is follows in
    some_is e.place p (sym w.here ∙ ap (inside plan (reverse before)) own ∙ (as_far plan old before t h).inside ∙ may.here)

-- where t was asked for work and did it, it isn't asked again
pub work_stays : (plan : Plan) (start mid before new : Journal) (t p k q j : ℕ) (from begin : ℤ) (work : Worked)
    → Answers plan start mid t None (answer.Work p k from) → GrowsWithout mid before t
    → Answers plan before new t (Some work) (answer.Work q j begin) → work.rounds ≡ k → work.from ≡ from → ⊥
work_stays plan start mid before new t p k q j from begin work first h second rounds starts =
    let far = as_far plan mid before t h in
    let a : MayWork plan (reverse mid) (work_entry p t k from) =
    subst (λ xs. MayFollow plan (reverse xs) (work_entry p t k from)) (sym first.kept) first.may in
    let b : MayWork plan (reverse before) (work_entry q t j begin) = second.may in
    let place : q ≡ p = some_is q p (sym b.here ∙ far.inside ∙ a.here) in
    let steps : next_step plan (reverse before) q t ≡ next_step plan (reverse mid) p t =
    ap (λ x. slice_get (program_in plan q t x).steps (position plan (reverse before) q t)) (far.handled q)
    ∙ ap (λ n. slice_get (program_in plan q t (exception_handled (reverse mid) q t)).steps n) (far.position q)
    ∙ ap (λ x. next_step plan (reverse mid) x t) place in
    let many : k ≡ j = work_is k j (sym a.works ∙ sym steps ∙ b.works) in
    let start_is : from ≡ begin =
    first.start ∙ ap (λ xs. register plan (reverse xs) p t) (sym first.kept) ∙ sym (ap (λ x. register plan (reverse mid) x t) place)
    ∙ sym (far.register q) ∙ sym second.start in
    second.unfit (rounds ∙ many, starts ∙ start_is)
