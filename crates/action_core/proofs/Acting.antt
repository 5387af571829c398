-- What each kind of entry raises, halts and resolves, and that it may.
use Rattle.std.proofs.Common.{◌≡◌, ◌∙◌, ◌⊎◌, IfSome, ℕ, ◌==◌, ◌<◌, ◌≤◌, Bool, true, false, not, cond, ◌&&◌, List, [], ◌∷◌, Option, Some, None, is_none, length, refl, sym, ap, subst, arith, inl, inr}
use Rattle.std.proofs.lemmas.Bool.{cases_Bool, eqb-true, eq-eqb, both_ways, false_from_ne_true, false≢true}
use Rattle.caa_base.specs.declared.written.entry.Entry.{Entry}
use Rattle.caa_base.specs.declared.written.entry.Kind.{Kind}
use Rattle.caa_base.specs.declared.written.entry.Kind.TheVariants as kind
use Rattle.caa_base.specs.Written.Lists.{member, is_at}
use Rattle.caa_base.proofs.ListLemmas.{all_at}
use Rattle.place_plan.specs.Plans.PlanValue.{Plan}
use Rattle.place_plan.specs.Plans.Places.{parent, roles_of, internal_of, fault_of}
use Rattle.place_plan.specs.RulesOfJournals.Whereabouts.{inside}
use Rattle.place_plan.specs.RulesOfJournals.Raising.{has_handled, raises_in, exceptions_raised, halts_in, is_halted, is_raised, exception_resolved}
use Rattle.place_plan.specs.RulesOfJournals.Journals.{LegalPast}
use Rattle.place_plan.proofs.OnJournals.EntryKinds.{of_kind}
use Rattle.journal_laws.proofs.Playable.{IsPlayable}
use Rattle.journal_laws.proofs.Core.{Raises}
use Rattle.journal_laws.proofs.Raised.{role_inside, raises, plain_calm, unhandled_fault}
use Rattle.journal_laws.proofs.Raised.{parent_round}
use Rattle.journal_laws.proofs.Ranges.{place_known, carried_in_range}
use Rattle.caa_base.specs.Written.Lists.{is_empty}
use Rattle.place_plan.specs.RulesOfJournals.Rules.{MayPut, MayLeave, Names, exception_carried}
use Rattle.cover_table.specs.Cover.{CoverOrder, IsLeastCover, IsSound}
use Rattle.resolution_core.specs.declared.recovery.Recovery.{Recovery}
use Rattle.core_words.specs.Joining.{IsCoverOf}
use Rattle.resolution_core.specs.inner.Recoveries.{at, IsRunning}
use Rattle.resolution_core.specs.inner.Standing.{IsRecoveryOf, StandsFor, Acts}

-- ---- what an entry does

abbrev no_numbers : List ℕ
no_numbers = []

both : (b : Bool) → (b && true) ≡ b
both true = refl
both false = refl

neither : (b : Bool) → (b && false) ≡ false
neither true = refl
neither false = refl

none : (b : Bool) → cond b [] [] ≡ no_numbers
none true = refl
none false = refl

stay : (b : Bool) → cond b false false ≡ false
stay true = refl
stay false = refl

test : (b : Bool) → cond b true false ≡ b
test true = refl
test false = refl

-- the kinds that have to do with recovery
abbrev pub recovers : Kind → Bool
recovers kind.Raise = true
recovers kind.PutFault = true
recovers kind.Leave = true
recovers kind.Inform = true
recovers kind.Resolve = true
recovers _ = false

module _ (plan : Plan) (past : List Entry) where
  pub raise_acts : (e : Entry) → Acts plan past (of_kind kind.Raise e) e.place e.by (e.arg ∷ []) true false
  raise_acts e =
      record { own = refl; raises = λ q. refl; stops = λ q. sym (test (e.place == q)); settles = λ q. sym (stay (e.place == q)) }

  pub fault_acts : (e : Entry) → has_handled past e.place e.by ≡ false
      → Acts plan past (of_kind kind.PutFault e) e.place e.by (fault_of plan e.place ∷ []) true false
  fault_acts e fresh = record {
    own = refl;
    raises = λ q. by_place q (cases_Bool (e.place == q));
    stops = λ q. stops_at q (cases_Bool (e.place == q));
    settles = λ q. sym (stay (e.place == q));
  }
    where
      by_place : (q : ℕ) → ((e.place == q) ≡ true) ⊎ ((e.place == q) ≡ false)
          → raises_in plan past q (of_kind kind.PutFault e) kind.PutFault ≡ cond (e.place == q) (fault_of plan e.place ∷ []) []
      by_place q (inl same) =
          let there : has_handled past q e.by ≡ false = subst (λ p. has_handled past p e.by ≡ false) (eqb-true e.place q same)
          fresh in rw (same, there) (ap (λ p. fault_of plan p ∷ []) (sym (eqb-true e.place q same)))
      by_place q (inr apart) = rw apart refl

      stops_at : (q : ℕ) → ((e.place == q) ≡ true) ⊎ ((e.place == q) ≡ false)
          → halts_in plan past q (of_kind kind.PutFault e) kind.PutFault ≡ cond (e.place == q) true false
      stops_at q (inl same) =
          let there : has_handled past q e.by ≡ false = subst (λ p. has_handled past p e.by ≡ false) (eqb-true e.place q same)
          fresh in rw (same, there) refl
      stops_at q (inr apart) = rw apart refl

  pub carries_acts : (e : Entry) (p : ℕ) → parent plan e.place ≡ Some p → e.mark ≡ 1
      → Acts plan past (of_kind kind.Leave e) p e.by (e.arg ∷ []) true false
  carries_acts e p into one = record {
    own = refl;
    raises = λ q. ap (λ (b : Bool). cond b (e.arg ∷ []) []) (carries q);
    stops = λ q. carries q ∙ sym (test (p == q));
    settles = λ q. sym (stay (p == q));
  }
    where
      carries : (q : ℕ) → (is_at (parent plan e.place) q && (e.mark == 1)) ≡ (p == q)
      carries q = rw (into, eq-eqb e.mark 1 one) (both (p == q))

  pub inform_acts : (e : Entry) → Acts plan past (of_kind kind.Inform e) e.place e.by [] true false
  inform_acts e =
      record {
        own = refl;
        raises = λ q. sym (none (e.place == q));
        stops = λ q. sym (test (e.place == q));
        settles =
            λ q. sym (stay (e.place == q));
      }

  pub resolve_acts : (e : Entry) → Acts plan past (of_kind kind.Resolve e) e.place e.by [] false true
  resolve_acts e =
      record {
        own = refl;
        raises = λ q. sym (none (e.place == q));
        stops = λ q. sym (stay (e.place == q));
        settles =
            λ q. sym (test (e.place == q));
      }

  -- the other kinds, and a put refused in a handler, and a leave that carries nothing
  pub fault_idle : (e : Entry) → has_handled past e.place e.by ≡ true
      → Acts plan past (of_kind kind.PutFault e) e.place e.by [] false false
  fault_idle e done = record {
    own = refl;
    raises = λ q. by_place q (cases_Bool (e.place == q));
    stops = λ q. stops_at q (cases_Bool (e.place == q));
    settles = λ q. sym (stay (e.place == q));
  }
    where
      by_place : (q : ℕ) → ((e.place == q) ≡ true) ⊎ ((e.place == q) ≡ false)
          → raises_in plan past q (of_kind kind.PutFault e) kind.PutFault ≡ cond (e.place == q) [] []
      by_place q (inl same) =
          let there : has_handled past q e.by ≡ true = subst (λ p. has_handled past p e.by ≡ true) (eqb-true e.place q same) done
          in rw (same, there) refl
      by_place q (inr apart) = rw apart refl

      stops_at : (q : ℕ) → ((e.place == q) ≡ true) ⊎ ((e.place == q) ≡ false)
          → halts_in plan past q (of_kind kind.PutFault e) kind.PutFault ≡ cond (e.place == q) false false
      stops_at q (inl same) =
          let there : has_handled past q e.by ≡ true = subst (λ p. has_handled past p e.by ≡ true) (eqb-true e.place q same) done
          in rw (same, there) refl
      stops_at q (inr apart) = rw apart refl

  pub leave_idle : (e : Entry) → (p : ℕ) → ((q : ℕ) → (is_at (parent plan e.place) q && (e.mark == 1)) ≡ false)
      → Acts plan past (of_kind kind.Leave e) p e.by [] false false
  leave_idle e p quiet = record {
    own = refl;
    raises = λ q. ap (λ (b : Bool). cond b (e.arg ∷ []) []) (quiet q) ∙ sym (none (p == q));
    stops = λ q. quiet q ∙ sym (stay (p == q));
    settles = λ q. sym (stay (p == q));
  }

  pub idle_acts : (k : Kind) (e : Entry) → recovers k ≡ false → Acts plan past (of_kind k e) e.place e.by [] false false
  idle_acts kind.Raise e h = absurd (false≢true (sym h))
  idle_acts kind.PutFault e h = absurd (false≢true (sym h))
  idle_acts kind.Leave e h = absurd (false≢true (sym h))
  idle_acts kind.Inform e h = absurd (false≢true (sym h))
  idle_acts kind.Resolve e h = absurd (false≢true (sym h))
  idle_acts _ e h =
      record {
        own = refl;
        raises = λ q. sym (none (e.place == q));
        stops = λ q. sym (stay (e.place == q));
        settles =
            λ q. sym (stay (e.place == q));
      }

-- ---- that it may

-- a leave that names an exception
named : (e : Entry) (o : Option ℕ) → Names e o → e.mark ≡ 1 → o ≡ Some e.arg
named e None h one = absurd (omega (arith, h.0))
named e (Some x) h one = ap Some (sym h.1)

module _ (plan : Plan) (playable : IsPlayable plan) (few : length plan.participants ≤ 64) (past : List Entry)
    (legal : LegalPast plan past) (rows : List Recovery) (s : StandsFor plan past rows) where
  known : Raises plan past
  known = raises plan playable.tree past legal

  -- where a role isn't halted, the place isn't resolved
  unresolved : (p t : ℕ) → member t (roles_of plan p) ≡ true → is_halted plan past p t ≡ false → exception_resolved past p ≡ None
  unresolved p t role running = by_option (exception_resolved past p) refl
    where
      by_option : (o : Option ℕ) → exception_resolved past p ≡ o → exception_resolved past p ≡ None
      by_option None w = w
      by_option (Some x) w =
          let all = (known.resolves p x w).0 in
          absurd (both_ways _ running (all_at (λ u. is_halted plan past p u) (roles_of plan p) t all role))

  pub there : (p t : ℕ) → member t (roles_of plan p) ≡ true → p < length rows
  there p t role = subst (λ n. p < n) (sym s.as_many) (place_known plan p t role)

  pub row : (p t : ℕ) → member t (roles_of plan p) ≡ true → IsRecoveryOf plan past p (at rows p)
  row p t role = s.each p

  pub running : (p t : ℕ) → member t (roles_of plan p) ≡ true → is_halted plan past p t ≡ false → IsRunning rows p t
  running p t role free =
      let l = playable.known p t role in
      record {
        there = there p t role;
        known = omega (arith, l, few);
        running = (row p t role).halted t ∙ free;
        unresolved =
            (row p t role).resolution ∙ unresolved p t role free;
      }

  pub covered : (p t : ℕ) → member t (roles_of plan p) ≡ true → IfSome (at rows p).cover (λ x. x < (internal_of plan p).count)
  covered p t role = by_option (at rows p).cover (row p t role).cover
    where
      by_option : (o : Option ℕ) → IsCoverOf (internal_of plan p) (exceptions_raised plan past p) o
          → IfSome o (λ x. x < (internal_of plan p).count)
      by_option None w = tt
      by_option (Some x) w = w.1.in_range

  -- ---- who makes an entry

  pub role : (e : Entry) → inside plan past e.by ≡ Some e.place → member e.by (roles_of plan e.place) ≡ true
  role e here = role_inside plan playable.tree past legal e.by e.place here

  pub fault_free : (e : Entry) → MayPut plan past e → has_handled past e.place e.by ≡ false
      → is_halted plan past e.place e.by ≡ false
  fault_free e h fresh =
      (plain_calm plan past e.place e.by known (false_from_ne_true _ (λ w. unhandled_fault plan past e.by e.place w fresh h.can))).0

  pub carry_free : (e : Entry) (p : ℕ) → MayLeave plan past e → parent plan e.place ≡ Some p → is_halted plan past p e.by ≡ false
  carry_free e p h into = (known.away p e.by e.place h.here (parent_round plan playable.tree e.place p into)).0

  pub carry_role : (e : Entry) (p : ℕ) → MayLeave plan past e → parent plan e.place ≡ Some p
      → member e.by (roles_of plan p) ≡ true
  carry_role e p h into = playable.tree.roles_in p e.place e.by (parent_round plan playable.tree e.place p into) (role e h.here)

  pub carry_known : (e : Entry) (p : ℕ) → MayLeave plan past e → parent plan e.place ≡ Some p → e.mark ≡ 1
      → e.arg < (internal_of plan p).count
  carry_known e p h into one =
      carried_in_range plan playable past p e.place e.by e.arg into
      (named e (exception_carried plan past e.place e.by) h.carries one)

  pub cover_there : (p t : ℕ) → member t (roles_of plan p) ≡ true → is_raised plan past p ≡ true
      → is_none (at rows p).cover ≡ false
  cover_there p t role up = by_option (at rows p).cover (row p t role).cover
    where
      by_option : (o : Option ℕ) → IsCoverOf (internal_of plan p) (exceptions_raised plan past p) o → is_none o ≡ false
      by_option None w = absurd (both_ways _ (ap (λ (xs : List ℕ). not (is_empty xs)) w) up)
      by_option (Some x) w = refl

-- there is one least cover
pub one_least : (order : CoverOrder) (xs : List ℕ) (x y : ℕ) → IsSound order → IsLeastCover order xs x
    → IsLeastCover order xs y → x ≡ y
one_least order xs x y sound a b =
    sound.is_order.antisymmetric x y a.in_range b.in_range (b.least x a.in_range a.above) (a.least y b.in_range b.above)
