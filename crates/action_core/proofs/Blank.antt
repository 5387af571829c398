-- Who has no arrival in a place has done nothing there.
use Rattle.std.proofs.Common.{◌≡◌, ◌∙◌, ℕ, pos, ◌==◌, Bool, true, false, not, ◌&&◌, ◌||◌, List, [], ◌∷◌, Option, Some, sym, refl, ap, subst}
use Rattle.std.proofs.lemmas.Bool.{eqb-true, both_ways, false_from_ne_true, false≢true, and_parts, or_right}
use Rattle.caa_base.specs.declared.written.entry.Entry.{Entry}
use Rattle.caa_base.specs.declared.written.entry.Kind.{Kind}
use Rattle.caa_base.specs.declared.written.entry.Kind.TheVariants as kind
use Rattle.caa_base.specs.Written.Lists.{is_at}
use Rattle.caa_base.proofs.ListLemmas.{at_same}
use Rattle.place_plan.specs.Plans.PlanValue.{Plan}
use Rattle.place_plan.specs.Plans.Places.{parent, is_within}
use Rattle.place_plan.specs.RulesOfJournals.Entries.{has_by, is_by}
use Rattle.place_plan.specs.RulesOfJournals.Whereabouts.{inside, is_left_in_silence}
use Rattle.place_plan.specs.RulesOfJournals.Raising.{has_handled}
use Rattle.place_plan.specs.RulesOfJournals.Roles.{position, register}
use Rattle.place_plan.specs.RulesOfJournals.Rules.{Row}
use Rattle.place_plan.specs.RulesOfJournals.Journals.{LegalPast}
use Rattle.place_plan.proofs.OnJournals.EntryKinds.{of_kind, both_same}
use Rattle.journal_laws.proofs.Playable.{IsTree}
use Rattle.journal_laws.proofs.Tree.{in_within}
use Rattle.journal_laws.proofs.Raised.{parent_round}
use Rattle.journal_laws.proofs.Innermost.{stays_within}
use Rattle.journal_laws.proofs.Arrivals.{inside_arrived, stays_arrived}

-- t has done nothing in p
pub record IsBlank (plan : Plan) (past : List Entry) (p t : ℕ) : Type 0 where
  pub unstepped : position plan past p t ≡ 0
  pub unread : register plan past p t ≡ pos 0
  pub unhandled : has_handled past p t ≡ false

off : (b c : Bool) → (b ≡ true → c ≡ true → ⊥) → (b && c) ≡ false
off true true h = absurd (h refl refl)
off true false h = refl
off false c h = refl

module _ (plan : Plan) (tree : IsTree plan) where
  -- ---- who has no arrival in a place has done nothing there

  own_apart : (past : List Entry) (e : Entry) (p t : ℕ) → LegalPast plan past → inside plan past e.by ≡ Some e.place
      → has_by kind.Arrive past p t ≡ false → ((e.place == p) && (e.by == t)) ≡ false
  own_apart past e p t legal here none = false_from_ne_true _ (λ w.
      let same = both_same e.place p e.by t w in
      let there : inside plan past t ≡ Some p = subst (λ u. inside plan past u ≡ Some p) same.1 (here ∙ ap Some same.0) in
      both_ways _ none (inside_arrived plan tree past legal p t there))

  round_apart : (past : List Entry) (e : Entry) (p t : ℕ) → LegalPast plan past → inside plan past e.by ≡ Some e.place
      → has_by kind.Arrive past p t ≡ false → (b : Bool) → ((is_at (parent plan e.place) p && b) && (e.by == t)) ≡ false
  round_apart past e p t legal here none b = off (is_at (parent plan e.place) p && b) (e.by == t) (λ x y.
      let into : parent plan e.place ≡ Some p = at_same _ _ (and_parts (is_at (parent plan e.place) p) b x).0 in
      let there : inside plan past t ≡ Some e.place = subst (λ u. inside plan past u ≡ Some e.place) (eqb-true e.by t y) here in
      let round : is_within plan e.place p ≡ true = or_right (e.place == p) _ (parent_round plan tree e.place p into) in
      let stays = stays_within plan tree past legal t p ∙ ap (λ (o : Option ℕ). in_within plan o p) there ∙ round in
      both_ways _ none (stays_arrived plan tree past legal p t stays))

  blank_by : (past : List Entry) (k : Kind) (e : Entry) (p t : ℕ) → LegalPast plan past → Row k plan past (of_kind k e)
      → has_by kind.Arrive past p t ≡ false → IsBlank plan past p t → IsBlank plan (of_kind k e ∷ past) p t
  blank_by past kind.Read e p t legal h none b =
      let apart = own_apart past e p t legal h.here none in record
      { unstepped = rw apart b.unstepped; unread = rw apart b.unread; unhandled = b.unhandled }
  blank_by past kind.Work e p t legal h none b =
      let apart = own_apart past e p t legal h.here none in record
      { unstepped = rw apart b.unstepped; unread = rw apart b.unread; unhandled = b.unhandled }
  blank_by past kind.Write e p t legal h none b =
      let apart = own_apart past e p t legal h.here none in record
      { unstepped = rw apart b.unstepped; unread = rw apart b.unread; unhandled = b.unhandled }
  blank_by past kind.Check e p t legal h none b =
      let apart = own_apart past e p t legal h.here none in record
      { unstepped = rw apart b.unstepped; unread = b.unread; unhandled = b.unhandled }
  blank_by past kind.Handle e p t legal h none b =
      let apart = own_apart past e p t legal h.here none in record
      { unstepped = rw apart b.unstepped; unread = rw apart b.unread; unhandled = rw apart b.unhandled }
  blank_by past kind.Leave e p t legal h none b =
      record {
        unstepped = rw (round_apart past e p t legal h.here none (not (is_left_in_silence plan past e.place))) b.unstepped;
        unread = b.unread;
        unhandled = b.unhandled;
      }
  blank_by past _ e p t legal h none b = record { unstepped = b.unstepped; unread = b.unread; unhandled = b.unhandled }

  pub blank : (past : List Entry) → LegalPast plan past → (p t : ℕ) → has_by kind.Arrive past p t ≡ false → IsBlank plan past p t
  blank [] legal p t none = record { unstepped = refl; unread = refl; unhandled = refl }
  blank (e ∷ past) legal p t none =
      let before = or_right-none (is_by kind.Arrive p t e) (has_by kind.Arrive past p t) none in
      blank_by past e.kind e p t legal.0 legal.1 before (blank past legal.0 p t before)
    where
      or_right-none : (b c : Bool) → (b || c) ≡ false → c ≡ false
      or_right-none true c h = absurd (false≢true (sym h))
      or_right-none false c h = h
