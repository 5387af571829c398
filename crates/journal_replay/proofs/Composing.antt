-- What is put together from what is kept of a past is what the definitions say.
use Rattle.std.proofs.Common.{◌≡◌, ℕ, ◌==◌, ◌≤◌, Bool, true, false, not, cond, ◌&&◌, List, [], ◌∷◌, Option, Some, None, is_none, is_some, length, refl, sym, ap, arith}
use Rattle.std.proofs.lemmas.Bool.{eqb-true, false≢true, false_from_ne_true}
use Rattle.caa_base.specs.declared.written.entry.Entry.{Entry}
use Rattle.caa_base.specs.declared.written.entry.Kind.{Kind}
use Rattle.caa_base.specs.declared.written.entry.Kind.TheVariants as kind
use Rattle.caa_base.specs.declared.written.entry.Outcome.TheVariants as outcome
use Rattle.caa_base.specs.Written.Lists.{same_option}
use Rattle.place_plan.specs.Plans.PlanValue.{Plan}
use Rattle.place_plan.specs.Plans.Places.{uses, next_alternate, map_signal}
use Rattle.place_plan.specs.RulesOfJournals.Entries.{is_in, newest}
use Rattle.place_plan.specs.RulesOfJournals.Whereabouts.{inside, is_undone, is_left_in_silence}
use Rattle.place_plan.specs.RulesOfJournals.Objects.{holder_after, holder_of}
use Rattle.place_plan.specs.RulesOfJournals.Roles.{next_play, is_over}
use Rattle.place_plan.specs.RulesOfJournals.Rules.{abort_mapped, outcome_mapped}
use Rattle.place_plan.specs.RulesOfJournals.Journals.{LegalPast}
use Rattle.journal_laws.proofs.Playable.{IsPlayable}
use Rattle.journal_laws.proofs.Over.{over_outside, over_done, over_from}
use Rattle.journal_replay.specs.Questions.{outcome_of_end, name_of_abort}
use Rattle.journal_replay.specs.inner.Composed.{tells_undone, name_mapped, mapped_if_ended}
use Rattle.journal_replay.proofs.Entering.{same_tests}

-- ---- plays

both_none : (a b : Option ℕ) → a ≡ None → b ≡ None → (is_none a && is_none b) ≡ true
both_none None None h k = refl
both_none None (Some y) h k = absurd cc
both_none (Some x) b h k = absurd cc

module _ (plan : Plan) (playable : IsPlayable plan) (past : List Entry) (legal : LegalPast plan past) where
  -- who is nowhere and has no next play is over, and nobody else
  pub over_right : (t : ℕ) → (is_none (inside plan past t) && is_none (next_play plan past t)) ≡ is_over plan past t
  over_right t = same_tests _ _ (λ w. by_both (inside plan past t) (next_play plan past t) refl refl w)
      (λ w. both_none (inside plan past t) (next_play plan past t) (over_outside plan playable past legal t w)
      (over_done plan playable past legal t w))
    where
      by_both : (a b : Option ℕ) → inside plan past t ≡ a → next_play plan past t ≡ b → (is_none a && is_none b) ≡ true
          → is_over plan past t ≡ true
      by_both None None v w h = over_from plan playable past legal t v w
      by_both None (Some q) v w h = absurd (false≢true h)
      by_both (Some p) b v w h = absurd (false≢true h)

-- ---- objects

-- who is told to be nobody is the same as nobody
pub told_free : (o : Option ℕ) (b : Bool) → is_some o ≡ not b → b ≡ same_option None o
told_free None true h = refl
told_free None false h = absurd (false≢true h)
told_free (Some x) true h = absurd (false≢true (sym h))
told_free (Some x) false h = refl

module _ (plan : Plan) (playable : IsPlayable plan) where
  unused : (p o : ℕ) → length plan.objects ≤ o → uses plan p o ≡ false
  unused p o high = false_from_ne_true _ (λ w. let low = playable.objects p o w in absurd (omega (arith, low, high)))

  -- nobody holds an object that isn't there
  pub unknown_free : (past : List Entry) (o : ℕ) → length plan.objects ≤ o → holder_of plan past o ≡ None
  unknown_free [] o high = refl
  unknown_free (e ∷ past) o high = by_kind e.kind (unknown_free past o high)
    where
      by_kind : (k : Kind) → holder_of plan past o ≡ None → holder_after plan k e.place o (holder_of plan past o) ≡ None
      by_kind kind.Start h = rw (unused e.place o high) h
      by_kind kind.End h = rw (unused e.place o high) h
      by_kind _ h = h

-- ---- what is carried out of a place

undone_told : (o : Option Entry) → tells_undone (outcome_of_end o) ≡ is_undone o
undone_told None = refl
undone_told (Some e) = by_marks (e.mark == 0) (e.mark == 1) (e.mark == 2) (e.mark == 3) refl refl refl
  where
    by_marks : (a b c d : Bool) → (e.mark == 0) ≡ a → (e.mark == 1) ≡ b → (e.mark == 2) ≡ c
        → tells_undone
        (Some (cond a outcome.Commit (cond b (outcome.Signal e.arg) (cond c outcome.Undone (cond d outcome.Aborted outcome.Failed)))))
        ≡ c
    by_marks true b true d x y z =
        let m = eqb-true e.mark 0 x in
        let n = eqb-true e.mark 2 z in
        absurd (omega arith)
    by_marks true b false d x y z = refl
    by_marks false true true d x y z =
        let m = eqb-true e.mark 1 y in
        let n = eqb-true e.mark 2 z in
        absurd (omega arith)
    by_marks false true false d x y z = refl
    by_marks false false true d x y z = refl
    by_marks false false false true x y z = refl
    by_marks false false false false x y z = refl

pub silence_told : (plan : Plan) (past : List Entry) (p : ℕ)
    → (tells_undone (outcome_of_end (newest (is_in kind.End p) past)) && not (is_none (next_alternate plan p)))
    ≡ is_left_in_silence plan past p
silence_told plan past p = ap (λ b. b && not (is_none (next_alternate plan p))) (undone_told (newest (is_in kind.End p) past))

pub name_right : (plan : Plan) (p : ℕ) (o : Option Entry) → name_mapped plan p (name_of_abort o) ≡ abort_mapped plan p o
name_right plan p None = refl
name_right plan p (Some e) = by_mark (e.mark == 1)
  where
    by_mark : (b : Bool) → name_mapped plan p (cond b (Some e.arg) None) ≡ cond b (Some (map_signal plan p e.arg)) None
    by_mark true = refl
    by_mark false = refl

pub mapped_right : (plan : Plan) (p : ℕ) (abort end : Option Entry)
    → mapped_if_ended plan p abort (outcome_of_end end) ≡ outcome_mapped plan p end abort
mapped_right plan p abort None = refl
mapped_right plan p abort (Some e) = refl
