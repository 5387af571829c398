-- Where a source stands that has raised something in a place: its role was halted at its step, or it has come out of its use.
use Rattle.std.proofs.Common.{◌≡◌, ℕ, ◌==◌, Bool, true, false, not, cond, ◌&&◌, List, ◌∷◌, Some, None, Option, suc, refl, sym, ap, ◌∙◌, subst, subst₂}
use Rattle.std.proofs.lemmas.Bool.{and_parts, and_from, or_left, or_right, eqb-true, eq-eqb, both_ways, false_from_ne_true, not_from_false}
use Rattle.caa_base.specs.declared.written.entry.Entry.{Entry}
use Rattle.caa_base.specs.declared.written.entry.Kind.{Kind}
use Rattle.caa_base.specs.declared.written.entry.Kind.TheVariants as kind
use Rattle.caa_base.specs.Written.Lists.{member, index_of}
use Rattle.place_plan.specs.Plans.PlanValue.{Plan}
use Rattle.place_plan.specs.Plans.Places.{parent, roles_of, nest_number}
use Rattle.place_plan.specs.RulesOfJournals.Entries.{is_in, is_by, has, newest}
use Rattle.place_plan.specs.RulesOfJournals.Whereabouts.{inside, has_ended, is_left_in_silence}
use Rattle.place_plan.specs.RulesOfJournals.Raising.{has_handled, is_halted, exception_resolved}
use Rattle.place_plan.specs.RulesOfJournals.Roles.{advances, position, is_able}
use Rattle.place_plan.specs.RulesOfJournals.Rules.{Row, MayFollow, MayRaise, MayPut, outcome_mapped}
use Rattle.place_plan.specs.RulesOfJournals.Journals.{LegalPast}
use Rattle.journal_laws.specs.Laws.{Holds}
use Rattle.journal_laws.proofs.Playable.{IsPlayable}
use Rattle.journal_laws.proofs.Core.{Core}
use Rattle.place_plan.proofs.OnJournals.EntryKinds.{of_kind, both_same}
use Rattle.journal_laws.proofs.Arrivals.{one_has}
use Rattle.journal_laws.proofs.Holding.{end_live}
use Rattle.journal_laws.proofs.Lives.{live_parts}
use Rattle.journal_laws.proofs.Options.{some_apart}
use Rattle.journal_laws.proofs.Phases.{calm_open, going_parts}
use Rattle.journal_laws.proofs.Raised.{parent_round, plain_calm, role_inside}
use Rattle.journal_laws.proofs.Recovering.{handled_resolved}
use Rattle.journal_laws.proofs.Silence.{silence_stays, none_newest}
use Rattle.journal_laws.proofs.Uses.{steps_out}
use Rattle.reach_laws.specs.CanCome.{Source, step_of_role, nested_use, given_up_use}
use Rattle.reach_laws.proofs.CameOut.{has_carried, running_empty, carried_stays, able_calm}

module _ (plan : Plan) (playable : IsPlayable plan) (core : Holds Core plan) where
  -- t, who plays the role r of p, was halted there at its step i, and has carried nothing into p
  pub record IsHaltedAt (past : List Entry) (p r i t : ℕ) : Type 0 where
    pub role : member t (roles_of plan p) ≡ true
    pub number : index_of t (roles_of plan p) ≡ r
    pub halted : is_halted plan past p t ≡ true
    pub there : position plan past p t ≡ i
    pub empty : (c : ℕ) → parent plan c ≡ Some p → has_carried past c t ≡ false

  -- what the End of c means for t in the place round c
  abbrev pub carried_by : List Entry → ℕ → ℕ → Option ℕ
  carried_by past c t = outcome_mapped plan c (newest (is_in kind.End c) past) (newest (is_by kind.Abort c t) past)

  -- where nobody gave up, all carry the same out of a place
  pub alike : (past : List Entry) (c t u : ℕ) → has kind.Abort past c ≡ false → carried_by past c t ≡ carried_by past c u
  alike past c t u kept = ap (outcome_mapped plan c (newest (is_in kind.End c) past)) (nobody t ∙ sym (nobody u))
    where
      nobody : (v : ℕ) → newest (is_by kind.Abort c v) past ≡ None
      nobody v =
          none_newest (is_by kind.Abort c v) past
          (false_from_ne_true _ (λ gave. both_ways _ kept (one_has kind.Abort past c v gave)))

  -- c, a place of the use k of p, was left aloud, and y is what t carries out of it
  pub record IsLeftWith (past : List Entry) (p k y c t : ℕ) : Type 0 where
    pub up : parent plan c ≡ Some p
    pub number : nest_number plan c ≡ k
    pub left : has kind.Leave past c ≡ true
    pub aloud : is_left_in_silence plan past c ≡ false
    pub mapped : carried_by past c t ≡ Some y

  -- the source has raised y in p
  abbrev pub Stands : List Entry → ℕ → Source → ℕ → Type 0
  Stands past p (step_of_role r i) y = (t : ℕ) × IsHaltedAt past p r i t
  Stands past p (nested_use k) y = (c : ℕ) × (t : ℕ) × IsLeftWith past p k y c t × ((u : ℕ) → carried_by past c u ≡ Some y)
  Stands past p (given_up_use k) y = (c : ℕ) × (t : ℕ) × IsLeftWith past p k y c t

  -- ---- it stays so until the place is resolved

  -- where p isn't resolved, nobody handles there
  pub nobody_handles : (past : List Entry) → LegalPast plan past → (p t : ℕ) → exception_resolved past p ≡ None
      → has_handled past p t ≡ false
  nobody_handles past legal p t open_yet = false_from_ne_true _ (λ handled.
      let found = handled_resolved plan playable core past legal p t handled in
      some_apart (sym open_yet ∙ found.1))

  pub unresolved_before : (past : List Entry) (e : Entry) (p : ℕ) → exception_resolved (e ∷ past) p ≡ None
      → exception_resolved past p ≡ None
  unresolved_before past e p h = by_test (is_in kind.Resolve p e) h
    where
      by_test : (b : Bool) → cond b (Some e.arg) (exception_resolved past p) ≡ None → exception_resolved past p ≡ None
      by_test true w = absurd (some_apart (sym w))
      by_test false w = w

  -- who is halted in p makes no step there
  module _ (past : List Entry) (legal : LegalPast plan past) (p t : ℕ) (halted : is_halted plan past p t ≡ true)
      (open_yet : exception_resolved past p ≡ None) where
    not_able : is_able plan past p t ≡ true → ⊥
    not_able able =
        let calm = able_calm plan playable core past p t able (nobody_handles past legal p t open_yet) in
        both_ways _ (plain_calm plan past p t (core past legal).raises (calm_open plan past p calm).1).0 halted

    not_inside : (c : ℕ) → parent plan c ≡ Some p → inside plan past t ≡ Some c → ⊥
    not_inside c up here = both_ways _ ((core past legal).raises.away p t c here (parent_round plan playable.tree c p up)).0 halted

    steps_not : (e : Entry) → is_able plan past e.place e.by ≡ true
        → cond ((e.place == p) && (e.by == t)) (suc (position plan past p t)) (position plan past p t) ≡ position plan past p t
    steps_not e able = rw (false_from_ne_true ((e.place == p) && (e.by == t)) (λ x.
        let same = both_same e.place p e.by t x in
        not_able (subst₂ (λ a b. is_able plan past a b ≡ true) same.0 same.1 able))) refl

    position_stays : (k : Kind) (e : Entry) → Row k plan past (of_kind k e)
        → position plan (of_kind k e ∷ past) p t ≡ position plan past p t
    position_stays kind.Handle e h = rw (false_from_ne_true ((e.place == p) && (e.by == t)) (λ x.
        let same = both_same e.place p e.by t x in
        some_apart (sym open_yet ∙ subst (λ a. exception_resolved past a ≡ Some e.arg) same.0 h.resolution))) refl
    position_stays kind.Read e h = steps_not e h.can
    position_stays kind.Work e h = steps_not e h.can
    position_stays kind.Write e h = steps_not e h.can
    position_stays kind.Check e h = steps_not e h.can
    position_stays kind.Leave e h = rw (false_from_ne_true (advances plan past p e kind.Leave && (e.by == t)) (λ x.
        let parts = and_parts (advances plan past p e kind.Leave) (e.by == t) x in
        not_inside e.place (steps_out plan past e p parts.0).0
        (subst (λ a. inside plan past a ≡ Some e.place) (eqb-true e.by t parts.1) h.here))) refl
    position_stays _ e h = refl

    empty_stays : (k : Kind) (e : Entry) → Row k plan past (of_kind k e) → (c : ℕ) → parent plan c ≡ Some p
        → has_carried past c t ≡ false → has_carried (of_kind k e ∷ past) c t ≡ false
    empty_stays k e h c up none = carried_stays plan playable core past k e c t h (not_inside c up) none

  halted_on : (past : List Entry) (e : Entry) (p r i t : ℕ) → LegalPast plan past → MayFollow plan past e
      → exception_resolved past p ≡ None → IsHaltedAt past p r i t → IsHaltedAt (e ∷ past) p r i t
  halted_on past e p r i t legal h open_yet was = record {
    role = was.role;
    number = was.number;
    halted = or_right _ _ was.halted;
    there = position_stays past legal p t was.halted open_yet e.kind e h ∙ was.there;
    empty = λ c up. empty_stays past legal p t was.halted open_yet e.kind e h c up (was.empty c up);
  }

  -- what is carried out of a place that has ended stays as it is
  pub carried_on : (past : List Entry) (k : Kind) (e : Entry) (c t : ℕ) → LegalPast plan past → Row k plan past (of_kind k e)
      → has_ended past c ≡ true → carried_by (of_kind k e ∷ past) c t ≡ carried_by past c t
  carried_on past kind.End e c t legal h ended = rw (false_from_ne_true (e.place == c) (λ x.
      both_ways _ (live_parts e.place past (end_live plan playable.tree past (of_kind kind.End e) legal h)).1
      (subst (λ a. has_ended past a ≡ true) (sym (eqb-true e.place c x)) ended))) refl
  carried_on past kind.Abort e c t legal h ended = rw (false_from_ne_true ((e.place == c) && (e.by == t)) (λ x.
      both_ways _ (going_parts past e.place h.when).lasts
      (subst (λ a. has_ended past a ≡ true) (sym (both_same e.place c e.by t x).0) ended))) refl
  carried_on past _ e c t legal h ended = refl

  left_on : (past : List Entry) (e : Entry) (p k y c t : ℕ) → LegalPast plan past → MayFollow plan past e
      → IsLeftWith past p k y c t → IsLeftWith (e ∷ past) p k y c t
  left_on past e p k y c t legal h was =
      let ended = (core past legal).visits.left c was.left in
      record {
        up = was.up;
        number = was.number;
        left = or_right _ _ was.left;
        aloud = silence_stays plan playable.tree past e c legal h ended ∙ was.aloud;
        mapped = carried_on past e.kind e c t legal h ended ∙ was.mapped;
      }

  pub stands_on : (past : List Entry) (e : Entry) (p : ℕ) (source : Source) (y : ℕ) → LegalPast plan past → MayFollow plan past e
      → exception_resolved past p ≡ None → Stands past p source y → Stands (e ∷ past) p source y
  stands_on past e p (step_of_role r i) y legal h open_yet (t, was) = (t, halted_on past e p r i t legal h open_yet was)
  stands_on past e p (nested_use k) y legal h open_yet (c, t, was, all) = (
    c,
    t,
    left_on past e p k y c t legal h was,
    λ u. carried_on past e.kind e c u legal h ((core past legal).visits.left c was.left) ∙ all u,
  )
  stands_on past e p (given_up_use k) y legal h open_yet (c, t, was) = (c, t, left_on past e p k y c t legal h was)

  -- ---- steps that raise now

  pub raise_stands : (past : List Entry) (e : Entry) → LegalPast plan past → MayRaise plan past (of_kind kind.Raise e)
      → IsHaltedAt (of_kind kind.Raise e ∷ past) e.place (index_of e.by (roles_of plan e.place)) (position plan past e.place e.by) e.by
  raise_stands past e legal h = record {
    role = role_inside plan playable.tree past legal e.by e.place h.here;
    number = refl;
    halted = or_left _ _ (and_from (e.place == e.place) (e.by == e.by) (eq-eqb e.place e.place refl) (eq-eqb e.by e.by refl));
    there = refl;
    empty = λ c up. running_empty plan playable core past e.place c e.by up h.running;
  }

  pub fault_stands : (past : List Entry) (e : Entry) → LegalPast plan past → MayPut plan past (of_kind kind.PutFault e)
      → has_handled past e.place e.by ≡ false
      → IsHaltedAt (of_kind kind.PutFault e ∷ past) e.place (index_of e.by (roles_of plan e.place)) (position plan past e.place e.by) e.by
  fault_stands past e legal h unhandled =
      let calm = able_calm plan playable core past e.place e.by h.can unhandled in
      let running = (plain_calm plan past e.place e.by (core past legal).raises (calm_open plan past e.place calm).1).0 in
      record {
        role = role_inside plan playable.tree past legal e.by e.place h.here;
        number = refl;
        halted =
            or_left _ _ (and_from ((e.place == e.place) && not (has_handled past e.place e.by)) (e.by == e.by)
            (and_from (e.place == e.place) (not (has_handled past e.place e.by)) (eq-eqb e.place e.place refl)
            (not_from_false _ unhandled)) (eq-eqb e.by e.by refl));
        there = refl;
        empty = λ c up. running_empty plan playable core past e.place c e.by up running;
      }
