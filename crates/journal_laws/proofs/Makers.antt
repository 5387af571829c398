-- The maker of an entry has a role in its place, and who puts an object there finds it, and each place round it, going on.
use Rattle.std.proofs.Common.{◌≡◌, ℕ, ◌==◌, true, List, refl, sym, subst, inl, inr}
use Rattle.std.proofs.lemmas.Bool.{or_cases, or_right, eqb-true}
use Rattle.caa_base.specs.declared.written.entry.Entry.{Entry}
use Rattle.caa_base.specs.declared.written.entry.Kind.{Kind}
use Rattle.caa_base.specs.declared.written.entry.Kind.TheVariants as kind
use Rattle.place_plan.specs.Plans.PlanValue.{Plan}
use Rattle.caa_base.specs.Written.Lists.{member}
use Rattle.place_plan.specs.Plans.Places.{around, roles_of, is_within}
use Rattle.place_plan.specs.RulesOfJournals.Whereabouts.{is_going}
use Rattle.place_plan.specs.RulesOfJournals.Rules.{Row, MayPut, MayFollow}
use Rattle.place_plan.specs.RulesOfJournals.Journals.{LegalPast}
use Rattle.journal_laws.proofs.Playable.{IsTree}
use Rattle.place_plan.proofs.OnJournals.EntryKinds.{of_kind}
use Rattle.journal_laws.proofs.Raised.{role_inside, busy_inside}
use Rattle.journal_laws.proofs.Frozen.{able_open}
use Rattle.journal_laws.proofs.Arrivals.{arrives_with_role}
use Rattle.journal_laws.proofs.InnerFirst.{round_round}

module _ (plan : Plan) (tree : IsTree plan) where
  -- what is within a place is within what that place is within
  pub within_through : (r q p : ℕ) → is_within plan r q ≡ true → is_within plan q p ≡ true → is_within plan r p ≡ true
  within_through r q p h k =
      elim (or_cases (r == q) (member q (around plan r)) h) [
        | inl x ↦ subst (λ a. is_within plan a p ≡ true) (sym (eqb-true r q x)) k
        | inr x ↦ elim (or_cases (q == p) (member p (around plan q)) k) [
          | inl y ↦ or_right _ _ (subst (λ a. member a (around plan r) ≡ true) (eqb-true q p y) x)
          | inr y ↦ or_right _ _ (round_round plan tree q p r (around plan r) refl x y)
        ]
      ]

  -- the maker of an entry has a role in its place
  maker_role_by : (past : List Entry) (k : Kind) (e : Entry) → LegalPast plan past → Row k plan past (of_kind k e)
      → member e.by (roles_of plan e.place) ≡ true
  maker_role_by past kind.Arrive e legal h = arrives_with_role plan tree past (of_kind kind.Arrive e) h
  maker_role_by past k e legal h = role_inside plan tree past legal e.by e.place h.here

  pub maker_role : (past : List Entry) (e : Entry) → LegalPast plan past → MayFollow plan past e
      → member e.by (roles_of plan e.place) ≡ true
  maker_role past e legal h = maker_role_by past e.kind e legal h

  -- a place within which one puts an object goes on
  pub put_going : (past : List Entry) (e : Entry) (p : ℕ) → LegalPast plan past → MayPut plan past e
      → is_within plan e.place p ≡ true → is_going past p ≡ true
  put_going past e p legal h w =
      elim (or_cases (e.place == p) (member p (around plan e.place)) w) [
        | inl x ↦ subst (λ a. is_going past a ≡ true) (eqb-true e.place p x) (able_open plan past e.place e.by h.can).goes
        | inr x ↦ (busy_inside plan tree past legal e.by p e.place h.here x).goes
      ]
