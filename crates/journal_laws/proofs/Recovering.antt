-- What the core says of one role in a place that is calm or hot: whether it is halted, in its handler, or has given its verdict.
use Rattle.std.proofs.Common.{◌≡◌, ℕ, true, false, not, List, Some, refl, sym, ◌∙◌, subst, inl, inr, is_none}
use Rattle.std.proofs.lemmas.Bool.{and_parts, not-true, false_from_ne_true, both_ways, cases_Bool, cond-true}
use Rattle.caa_base.specs.declared.written.entry.Entry.{Entry}
use Rattle.caa_base.specs.declared.written.entry.Kind.TheVariants as kind
use Rattle.place_plan.specs.Plans.PlanValue.{Plan}
use Rattle.caa_base.specs.Written.Lists.{member}
use Rattle.place_plan.specs.Plans.Places.{roles_of, handler_of}
use Rattle.place_plan.specs.RulesOfJournals.Entries.{is_in, is_by}
use Rattle.place_plan.specs.RulesOfJournals.Whereabouts.{inside}
use Rattle.place_plan.specs.RulesOfJournals.Raising.{has_handled, is_raised, is_doomed, is_halted, exception_resolved}
use Rattle.place_plan.specs.RulesOfJournals.Roles.{has_given_after, has_given, all_have_given, is_handling, was_refused_in_handler, is_in_handler, has_aborted, all_have_aborted}
use Rattle.place_plan.specs.RulesOfJournals.Journals.{LegalPast}
use Rattle.journal_laws.specs.Laws.{Holds}
use Rattle.journal_laws.specs.Due.{due_of, due_calm, due_hot, due_resolved, due_agreed}
use Rattle.journal_laws.proofs.Playable.{IsPlayable}
use Rattle.journal_laws.proofs.Core.{Core}
use Rattle.caa_base.proofs.ListLemmas.{all_at}
use Rattle.journal_laws.proofs.Busy.{abort_doomed}
use Rattle.journal_laws.proofs.Newest.{stands_newest, handling_handled, given_resolved}
use Rattle.journal_laws.proofs.Phases.{IsOpen}
use Rattle.journal_laws.proofs.Options.{some_same}
use Rattle.journal_laws.proofs.Raised.{role_inside}

-- t is in its handler for what p is resolved to
pub record InHandler (plan : Plan) (past : List Entry) (p t : ℕ) : Type 0 where
  pub exception : ℕ
  pub resolution : exception_resolved past p ≡ Some exception
  pub handled : has_handled past p t ≡ true
  pub handling : is_handling past p t ≡ true
  pub taken : was_refused_in_handler past p t ≡ false
  pub halted : is_halted plan past p t ≡ true
  pub unsaid : has_given plan past p t ≡ false

module _ (plan : Plan) (playable : IsPlayable plan) (core : Holds Core plan) (past : List Entry) (legal : LegalPast plan past) where
  -- ---- one role

  -- in a resolved place each role is halted
  pub halted_in : (p t x : ℕ) → member t (roles_of plan p) ≡ true → exception_resolved past p ≡ Some x → is_halted plan past p t ≡ true
  halted_in p t x m w = all_at (is_halted plan past p) (roles_of plan p) t ((core past legal).raises.resolves p x w).0 m

  given_raised : (p t : ℕ) → is_raised plan past p ≡ true → has_given plan past p t ≡ has_given_after past p t
  given_raised p t r = rw r refl

  -- who began its handler in a raised place finds it resolved, and is still in it where it has given no verdict
  pub handled_resolved : (p t : ℕ) → has_handled past p t ≡ true → (x : ℕ) × (exception_resolved past p ≡ Some x)
  handled_resolved p t f = let some = stands_newest (is_by kind.Handle p t) past f in
      (some.0, ((core past legal).raises.handles p t some.0 some.1).0)

  pub handling_given : (p t : ℕ) → is_raised plan past p ≡ true → has_handled past p t ≡ true
      → has_given plan past p t ≡ not (is_handling past p t)
  handling_given p t r f = given_raised p t r ∙ (core past legal).says.handler p t f

  pub in_handler : (p t : ℕ) → member t (roles_of plan p) ≡ true → is_raised plan past p ≡ true
      → is_in_handler past p t ≡ true → InHandler plan past p t
  in_handler p t m r h =
      let parts = and_parts (is_handling past p t) (not (was_refused_in_handler past p t)) h in
      let handled = handling_handled p t past parts.0 in
      let some = handled_resolved p t handled in
      record {
        exception = some.0;
        resolution = some.1;
        handled = handled;
        handling = parts.0;
        taken = not-true _ parts.1;
        halted = halted_in p t some.0 m some.1;
        unsaid = handling_given p t r handled ∙ rw parts.0 refl;
      }

  -- who has given its verdict in a raised place finds it resolved
  pub given_finds : (p t : ℕ) → is_raised plan past p ≡ true → has_given plan past p t ≡ true
      → (x : ℕ) × (exception_resolved past p ≡ Some x)
  given_finds p t r g = stands_newest (is_in kind.Resolve p) past (given_resolved p t past (sym (given_raised p t r) ∙ g))

  -- a role that isn't halted in a raised place has given none
  pub running_unsaid : (p t : ℕ) → member t (roles_of plan p) ≡ true → is_raised plan past p ≡ true
      → is_halted plan past p t ≡ false → has_given plan past p t ≡ false
  running_unsaid p t m r f = false_from_ne_true _ (λ g. let some = given_finds p t r g in both_ways _ f (halted_in p t some.0 m some.1))

  -- a role that has given its verdict without a handler has none
  pub able_unsaid : (p t x : ℕ) → is_raised plan past p ≡ true → has_handled past p t ≡ false
      → exception_resolved past p ≡ Some x → (has_given plan past p t ≡ true) → is_none (handler_of plan p t x) ≡ true
  able_unsaid p t x r f w g =
      let n = (core past legal).says.other p t (sym (given_raised p t r) ∙ g) f in
      let one : n.0 ≡ x = some_same ((sym n.1) ∙ w) in
      subst (λ y. is_none (handler_of plan p t y) ≡ true) one n.2

  -- not all have given up in a place that isn't doomed and has a role
  pub some_stay : (p t : ℕ) → member t (roles_of plan p) ≡ true → is_doomed plan past p ≡ false → all_have_aborted plan past p ≡ false
  some_stay p t m spared =
      false_from_ne_true _ (λ w. both_ways _ spared
      (abort_doomed plan playable.tree past legal p t (all_at (has_aborted past p) (roles_of plan p) t w m)))

  -- ---- what the decision comes to

  pub due_in_calm : (t p : ℕ) → inside plan past t ≡ Some p → IsOpen plan past p → is_raised plan past p ≡ false
      → due_of plan past t ≡ due_calm plan past p t
  due_in_calm t p w o r = rw (w, o.lasts, o.started, o.kept, o.spared, r) refl

  pub due_in_hot : (t p : ℕ) → inside plan past t ≡ Some p → IsOpen plan past p → is_raised plan past p ≡ true
      → due_of plan past t ≡ due_hot plan past p t
  due_in_hot t p w o r = rw (w, o.lasts, o.started, o.kept, o.spared, r) refl

  pub due_in_resolved : (t p x : ℕ) → inside plan past t ≡ Some p → IsOpen plan past p → is_raised plan past p ≡ true
      → exception_resolved past p ≡ Some x → due_of plan past t ≡ due_resolved plan past p t x
  due_in_resolved t p x w o r z = due_in_hot t p w o r ∙ rw (halted_in p t x (role_inside plan playable.tree past legal t p w) z, z) refl

  -- once all have given their verdicts, they agree
  pub due_in_agreed : (t p : ℕ) → inside plan past t ≡ Some p → IsOpen plan past p → all_have_given plan past p ≡ true
      → due_of plan past t ≡ due_agreed plan past p t
  due_in_agreed t p w o all = elim (cases_Bool (is_raised plan past p)) [
    | inl r ↦
        let some = given_finds p t r own in
        due_in_resolved t p some.0 w o r some.1 ∙ cond-true (has_given plan past p t) _ _ own
    | inr r ↦ due_in_calm t p w o r ∙ cond-true (has_given plan past p t) _ _ own
  ]
    where
      own : has_given plan past p t ≡ true
      own = all_at (has_given plan past p) (roles_of plan p) t all (role_inside plan playable.tree past legal t p w)
