-- What a place keeps: where it isn't open, no entry changes what was raised, resolved and said there.
use Rattle.std.proofs.Common.{◌≡◌, ℕ, ◌==◌, Bool, true, false, not, cond, ◌&&◌, ◌||◌, List, ◌∷◌, Some, None, Option, refl, subst, arith, inl, inr, MatchOption}
use Rattle.std.specs.List.{list_any, list_all}
use Rattle.std.proofs.lemmas.Bool.{and_parts, or_cases, or_parts, eqb-true, false≢true, false_from_ne_true, both_ways}
use Rattle.caa_base.specs.declared.written.entry.Entry.{Entry}
use Rattle.caa_base.specs.declared.written.entry.Kind.{Kind}
use Rattle.caa_base.specs.declared.written.entry.Kind.TheVariants as kind
use Rattle.caa_base.specs.declared.written.entry.Verdict.{Verdict}
use Rattle.place_plan.specs.Plans.PlanValue.{Plan}
use Rattle.place_plan.specs.Plans.Places.{parent, roles_of}
use Rattle.place_plan.specs.RulesOfJournals.Entries.{has}
use Rattle.place_plan.specs.RulesOfJournals.Whereabouts.{is_going, is_left_in_silence}
use Rattle.place_plan.specs.RulesOfJournals.Raising.{has_handled, carries_into, exceptions_raised, is_doomed, is_calm, is_hot, is_halted, exception_resolved}
use Rattle.place_plan.specs.RulesOfJournals.Roles.{has_given, all_have_given, is_able, is_in_handler, verdict_of, is_undo, wants_undo, has_aborted, all_have_aborted}
use Rattle.place_plan.specs.RulesOfJournals.Rules.{Row, MayLeave, MayFollow, Names, SaysVerdict, verdict_due, is_deaf}
use Rattle.place_plan.specs.RulesOfJournals.Journals.{LegalPast}
use Rattle.journal_laws.proofs.Playable.{IsTree}
use Rattle.caa_base.proofs.ListLemmas.{at_same}
use Rattle.place_plan.proofs.OnJournals.EntryKinds.{of_kind}
use Rattle.journal_laws.proofs.Phases.{IsOpen, calm_open, hot_open, open_either, is_open, open_parts, open_from}
use Rattle.journal_laws.proofs.Raised.{busy_inside, parent_round}

-- what no entry has changed in p
pub record IsFrozen (plan : Plan) (past : List Entry) (e : Entry) (p : ℕ) : Type 0 where
  pub raised : exceptions_raised plan (e ∷ past) p ≡ exceptions_raised plan past p
  pub halted : (t : ℕ) → is_halted plan (e ∷ past) p t ≡ is_halted plan past p t
  pub resolved : exception_resolved (e ∷ past) p ≡ exception_resolved past p
  pub handled : (t : ℕ) → has_handled (e ∷ past) p t ≡ has_handled past p t
  pub given : (t : ℕ) → has_given plan (e ∷ past) p t ≡ has_given plan past p t
  pub verdict : (t : ℕ) → verdict_of (e ∷ past) p t ≡ verdict_of past p t

pub frozen_given : (plan : Plan) (past : List Entry) (e : Entry) (p : ℕ) → IsFrozen plan past e p
    → all_have_given plan (e ∷ past) p ≡ all_have_given plan past p
frozen_given plan past e p f = λ i. list_all (λ t. f.given t i) (roles_of plan p)

pub frozen_wants : (plan : Plan) (past : List Entry) (e : Entry) (p : ℕ) → IsFrozen plan past e p
    → wants_undo plan (e ∷ past) p ≡ wants_undo plan past p
frozen_wants plan past e p f = λ i. list_any (λ t. is_undo (f.verdict t i)) (roles_of plan p)

-- the kinds that are made in a calm or hot place alone
abbrev pub acts : Kind → Bool
acts kind.Read = true
acts kind.Work = true
acts kind.Write = true
acts kind.Check = true
acts kind.PutFault = true
acts kind.Raise = true
acts kind.Inform = true
acts kind.Resolve = true
acts kind.Handle = true
acts kind.Verdict = true
acts _ = false

-- who is able is in a calm or hot place
pub able_open : (plan : Plan) (past : List Entry) (p t : ℕ) → is_able plan past p t ≡ true → IsOpen plan past p
able_open plan past p t h =
    elim (or_cases (is_calm plan past p && not (has_given plan past p t))
    (is_hot plan past p && is_in_handler past p t) h) [
      | inl w ↦ (calm_open plan past p (and_parts (is_calm plan past p) _ w).0).0
      | inr w ↦ (hot_open plan past p (and_parts (is_hot plan past p) _ w).0).0
    ]

-- and so is who gives its verdict
pub verdict_open : (plan : Plan) (past : List Entry) (p t : ℕ) (e : Entry)
    → MatchOption (verdict_due plan past p t) ⊥ (SaysVerdict e) → IsOpen plan past p
verdict_open plan past p t e w = by_phase (is_calm plan past p) (is_hot plan past p) refl refl _ _ w
  where
    by_phase : (b c : Bool) → is_calm plan past p ≡ b → is_hot plan past p ≡ c → (x y : Option Verdict)
        → MatchOption (cond b x (cond (not c) None y)) ⊥ (SaysVerdict e) → IsOpen plan past p
    by_phase true c a h x y w = (calm_open plan past p a).0
    by_phase false true a h x y w = (hot_open plan past p h).0
    by_phase false false a h x y w = elim w [ ]

pub open_by : (plan : Plan) (past : List Entry) (k : Kind) (e : Entry) → Row k plan past (of_kind k e) → acts k ≡ true
    → IsOpen plan past e.place
open_by plan past kind.Read e h a = able_open plan past e.place e.by h.can
open_by plan past kind.Work e h a = able_open plan past e.place e.by h.can
open_by plan past kind.Write e h a = able_open plan past e.place e.by h.can
open_by plan past kind.Check e h a = able_open plan past e.place e.by h.can
open_by plan past kind.PutFault e h a = able_open plan past e.place e.by h.can
open_by plan past kind.Raise e h a = open_either plan past e.place h.when
open_by plan past kind.Inform e h a = (hot_open plan past e.place h.when).0
open_by plan past kind.Resolve e h a = (hot_open plan past e.place h.when).0
open_by plan past kind.Handle e h a = (hot_open plan past e.place h.when).0
open_by plan past kind.Verdict e h a = verdict_open plan past e.place e.by (of_kind kind.Verdict e) h.due
open_by plan past _ e h a = absurd (false≢true a)

-- a leave that names an exception is neither deaf nor silent
named : (e : Entry) (b : Bool) (o : Option ℕ) → Names e (cond b None o) → (e.mark == 1) ≡ true → b ≡ false
named e true o h m = let one = eqb-true e.mark 1 m in absurd (omega (arith, h.0))
named e false o h m = refl

pub carrying_parts : (plan : Plan) (past : List Entry) (e : Entry) → MayLeave plan past e → (e.mark == 1) ≡ true
    → (is_deaf plan past (parent plan e.place) ≡ false) × (is_left_in_silence plan past e.place ≡ false)
carrying_parts plan past e h m =
    or_parts (is_deaf plan past (parent plan e.place)) (is_left_in_silence plan past e.place)
    (named e (is_deaf plan past (parent plan e.place) || is_left_in_silence plan past e.place) _ h.carries m)

module _ (plan : Plan) (tree : IsTree plan) (past : List Entry) (legal : LegalPast plan past) where
  -- where a leave carries an exception, the place round it is open
  pub carries_open : (e : Entry) (p : ℕ) → MayLeave plan past e → carries_into plan p e ≡ true → IsOpen plan past p
  carries_open e p h w =
      let parts = and_parts _ (e.mark == 1) w in
      let into : parent plan e.place ≡ Some p = at_same _ _ parts.0 in
      let hears : is_doomed plan past p ≡ false = subst (λ o. is_deaf plan past o ≡ false) into (carrying_parts plan past e h parts.1).0 in
      let busy = busy_inside plan tree past legal e.by p e.place h.here (parent_round plan tree e.place p into) in
      open_parts plan past p (open_from plan past p busy.goes hears)

  -- ---- what isn't open stays as it is

  shut_apart : (k : Kind) (e : Entry) (p : ℕ) → is_open plan past p ≡ false → Row k plan past (of_kind k e)
      → acts k ≡ true → (e.place == p) ≡ false
  shut_apart k e p shut h a = false_from_ne_true _ (λ y.
      let o : IsOpen plan past p = subst (IsOpen plan past) (eqb-true e.place p y) (open_by plan past k e h a) in
      both_ways _ shut (open_from plan past p o.goes o.spared))

  shut_apart_leave : (e : Entry) (p : ℕ) → is_open plan past p ≡ false → MayLeave plan past (of_kind kind.Leave e)
      → carries_into plan p e ≡ false
  shut_apart_leave e p shut h = false_from_ne_true _ (λ y.
      let o = carries_open (of_kind kind.Leave e) p h y in
      both_ways _ shut (open_from plan past p o.goes o.spared))

  frozen_by : (k : Kind) (e : Entry) (p : ℕ) → is_open plan past p ≡ false → Row k plan past (of_kind k e)
      → IsFrozen plan past (of_kind k e) p
  frozen_by kind.Raise e p shut h =
      let apart = shut_apart kind.Raise e p shut h refl in
      record {
        raised = rw apart refl;
        halted = λ t. rw apart refl;
        resolved = refl;
        handled = λ t. refl;
        given = λ t. rw apart refl;
        verdict = λ t. refl;
      }
  frozen_by kind.PutFault e p shut h =
      let apart = shut_apart kind.PutFault e p shut h refl in
      record {
        raised = rw apart refl;
        halted = λ t. rw apart refl;
        resolved = refl;
        handled = λ t. refl;
        given = λ t. rw apart refl;
        verdict = λ t. refl;
      }
  frozen_by kind.Inform e p shut h =
      let apart = shut_apart kind.Inform e p shut h refl in
      record { raised = refl; halted = λ t. rw apart refl; resolved = refl; handled = λ t. refl; given = λ t. refl; verdict = λ t. refl }
  frozen_by kind.Resolve e p shut h =
      let apart = shut_apart kind.Resolve e p shut h refl in
      record {
        raised = refl;
        halted = λ t. refl;
        resolved = rw apart refl;
        handled = λ t. refl;
        given = λ t. rw apart refl;
        verdict = λ t. refl;
      }
  frozen_by kind.Handle e p shut h =
      let apart = shut_apart kind.Handle e p shut h refl in
      record { raised = refl; halted = λ t. refl; resolved = refl; handled = λ t. rw apart refl; given = λ t. refl; verdict = λ t. refl }
  frozen_by kind.Verdict e p shut h =
      let apart = shut_apart kind.Verdict e p shut h refl in
      record {
        raised = refl;
        halted = λ t. refl;
        resolved = refl;
        handled = λ t. refl;
        given = λ t. rw apart refl;
        verdict = λ t. rw apart refl;
      }
  frozen_by kind.Leave e p shut h =
      let apart = shut_apart_leave e p shut h in
      record {
        raised = rw apart refl;
        halted = λ t. rw apart refl;
        resolved = refl;
        handled = λ t. refl;
        given = λ t. rw apart refl;
        verdict = λ t. refl;
      }
  frozen_by _ e p shut h =
      record {
        raised = refl;
        halted = λ t. refl;
        resolved = refl;
        handled = λ t. refl;
        given = λ t. refl;
        verdict = λ t. refl;
      }

  -- where p isn't open, an entry leaves it as it is
  pub frozen : (e : Entry) (p : ℕ) → is_open plan past p ≡ false → MayFollow plan past e → IsFrozen plan past e p
  frozen e p shut h = frozen_by e.kind e p shut h

  -- ---- where p goes on no more, nobody gives up in it either

  unaborted_by : (k : Kind) (e : Entry) (p : ℕ) → is_going past p ≡ false → Row k plan past (of_kind k e) → (t : ℕ)
      → has_aborted (of_kind k e ∷ past) p t ≡ has_aborted past p t
  unaborted_by kind.Abort e p stopped h t =
      rw (false_from_ne_true (e.place == p)
      (λ y. both_ways _ stopped (subst (λ a. is_going past a ≡ true) (eqb-true e.place p y) h.when))) refl
  unaborted_by _ e p stopped h t = refl

  pub unaborted : (e : Entry) (p : ℕ) → is_going past p ≡ false → MayFollow plan past e
      → all_have_aborted plan (e ∷ past) p ≡ all_have_aborted plan past p
  unaborted e p stopped h = λ i. list_all (λ t. unaborted_by e.kind e p stopped h t i) (roles_of plan p)

  no_abort_by : (k : Kind) (e : Entry) (p : ℕ) → is_going past p ≡ false → Row k plan past (of_kind k e)
      → has kind.Abort (of_kind k e ∷ past) p ≡ has kind.Abort past p
  no_abort_by kind.Abort e p stopped h =
      rw (false_from_ne_true (e.place == p)
      (λ y. both_ways _ stopped (subst (λ a. is_going past a ≡ true) (eqb-true e.place p y) h.when))) refl
  no_abort_by _ e p stopped h = refl

  pub no_abort : (e : Entry) (p : ℕ) → is_going past p ≡ false → MayFollow plan past e → has kind.Abort (e ∷ past) p ≡ has kind.Abort past p
  no_abort e p stopped h = no_abort_by e.kind e p stopped h

  pub stopped_shut : (p : ℕ) → is_going past p ≡ false → is_open plan past p ≡ false
  stopped_shut p h = rw h refl
