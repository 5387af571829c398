-- A journal that grows by turns.
use Rattle.std.proofs.Common.{◌≡◌, ℕ, List, [], ◌∷◌, ◌++◌, length, reverse, suc, refl, sym, ap, ◌∙◌, subst₂, append_assoc, append-nil}
use Rattle.std.proofs.lemmas.List.{reverse-append, reverse-reverse}
use Rattle.caa_base.specs.declared.written.entry.Entry.{Entry}
use Rattle.place_plan.specs.Plans.PlanValue.{Plan}
use Rattle.role_driver.specs.Schedule.{IsTurnOf, TakesTurn, GrewBy}

-- before the first turn, there is none
pub none_yet : (begins : ℕ → ℕ) (plan : Plan) (old : List Entry) → (none : GrewBy begins plan old old) × (length none.added ≡ 0)
none_yet begins plan old = (record { added = []; kept = sym (append-nil old); turns = tt }, refl)

-- after one more turn, there is one entry more
pub one_more : (begins : ℕ → ℕ) (plan : Plan) (old mid new : List Entry) (grown : GrewBy begins plan old mid) (first : ℕ)
    → first ≡ begins (suc (length grown.added)) → TakesTurn plan mid new first → (more : GrewBy begins plan old new)
    × (length more.added ≡ suc (length grown.added))
one_more begins plan old mid new s first e t =
    let past : reverse mid ≡ s.added ++ reverse old = ap reverse s.kept ∙ reverse-append old (reverse s.added)
    ∙ ap (λ es. es ++ reverse old) (reverse-reverse s.added) in
    let grown : new ≡ old ++ reverse (t.entry ∷ s.added) = t.added ∙ ap (λ es. es ++ t.entry ∷ []) s.kept
    ∙ append_assoc old (reverse s.added) (t.entry ∷ []) ∙ ap (λ es. old ++ es) (sym (reverse-append (t.entry ∷ []) s.added)) in (
      record {
        added = t.entry ∷ s.added;
        kept = grown;
        turns = (s.turns, subst₂ (λ es x. IsTurnOf plan es x t.entry.by) past e t.turn);
      },
      refl,
    )
