-- The exceptions and values that a legal journal of a playable plan names are in range.
use Rattle.std.proofs.Common.{◌≡◌, ℕ, ℤ, pos, negsuc, ◌+ℤ◌, int_lt, ◌==◌, ◌+◌, ◌*◌, ◌<◌, Bool, true, false, not, cond, ◌&&◌, ◌||◌, List, [], ◌∷◌, Option, Some, None, refl, subst, arith, inl, inr, zero, suc, length, slice_index_or, is_none, MatchOption, neg_ℤ}
use Rattle.std.specs.List.{All}
use Rattle.std.proofs.Math.Nat.{mod-lt}
use Rattle.std.proofs.lemmas.Int.{ints}
use Rattle.std.proofs.lemmas.List.Elements.{All-nil, All-cons, All-append}
use Rattle.std.proofs.lemmas.Option.{some_pair_parts}
use Rattle.std.proofs.lemmas.Bool.{and_parts, eqb-true, ltb-true, false≢true, cases_Bool}
use Rattle.caa_base.specs.Written.Mixing.{mix, residue, state_after}
use Rattle.caa_base.specs.declared.written.entry.Entry.{Entry}
use Rattle.caa_base.specs.declared.written.entry.Kind.{Kind}
use Rattle.caa_base.specs.declared.written.entry.Kind.TheVariants as kind
use Rattle.caa_base.specs.declared.written.entry.Outcome.{Outcome}
use Rattle.caa_base.specs.declared.written.entry.Outcome.TheVariants as outcome
use Rattle.caa_base.specs.declared.written.entry.Verdict.{Verdict}
use Rattle.caa_base.specs.declared.written.entry.Verdict.TheVariants as verdict
use Rattle.place_plan.specs.declared.drafts.draft_rows.AbortRow.{AbortRow}
use Rattle.place_plan.specs.declared.drafts.draft_rows.AbortRow.TheVariants as abort
use Rattle.place_plan.specs.declared.drafts.draft_rows.Step.{Step}
use Rattle.place_plan.specs.declared.drafts.draft_rows.Step.TheVariants as step
use Rattle.place_plan.specs.Plans.PlanValue.{Plan, PlaceRow}
use Rattle.caa_base.specs.Written.Lists.{member, is_at}
use Rattle.place_plan.specs.Plans.Places.{parent, roles_of, no_place, internal_of, interface_of, fault_of, handler_of, map_signal, nest_of}
use Rattle.place_plan.specs.RulesOfJournals.Entries.{is_in, is_by, newest}
use Rattle.place_plan.specs.RulesOfJournals.Whereabouts.{outcome_at, is_left_in_silence}
use Rattle.place_plan.specs.RulesOfJournals.Raising.{has_handled, exceptions_raised, raises_in, is_calm, is_hot, exception_handled, exception_resolved}
use Rattle.place_plan.specs.RulesOfJournals.Objects.{is_within_any, value_outside, places_undone}
use Rattle.place_plan.specs.RulesOfJournals.Roles.{position, register, program_of, next_step, next_raise, raise_of, meets, has_given, is_handling, verdict_at, verdict_of, signal_in, signals}
use Rattle.place_plan.specs.RulesOfJournals.Rules.{Row, Names, SaysVerdict, MayVerdict, clamped, put_of, final_verdict, unhandled_verdict, breaks_off, handler_verdict, verdict_due, abort_of, abort_mapped, mapped_by_outcome, outcome_mapped, is_deaf, exception_carried}
use Rattle.place_plan.specs.RulesOfJournals.Journals.{LegalPast}
use Rattle.place_plan.specs.Drafts.DraftRules.{step_in_range, verdict_in_range, abort_in_range}
use Rattle.caa_base.specs.Written.Limits.{is_value, IsValue, most_value}
use Rattle.place_plan.specs.RulesOfJournals.WellFormed.{MayShowException}
use Rattle.cover_table.specs.Cover.{CoverOrder}
use Rattle.journal_laws.proofs.Playable.{IsPlayable}
use Rattle.caa_base.proofs.ListLemmas.{chosen, at_same}
use Rattle.caa_base.proofs.ValueRange.{value_from}
use Rattle.place_plan.proofs.OnJournals.EntryKinds.{of_kind}
use Rattle.journal_laws.proofs.Makers.{maker_role}

-- ---- values

clamped_in_range : (v : ℤ) → IsValue (clamped v)
clamped_in_range v = elim (cases_Bool (int_lt (pos most_value) v)) [
  | inl x ↦ rw x (omega (arith, ints), omega (arith, ints))
  | inr x ↦ elim (cases_Bool (int_lt v (neg_ℤ (pos most_value)))) [
    | inl y ↦ rw (x, y) (omega (arith, ints), omega (arith, ints))
    | inr y ↦ rw (x, y) (grind (arith, ints), grind (arith, ints))
  ]
]

residue_small : (z : ℤ) → residue z 2147483648 < 2147483648
residue_small (pos n) = mod-lt n (omega arith)
residue_small (negsuc n) = omega arith

state_small : (state rounds : ℕ) → state < 2147483648 → state_after state rounds < 2147483648
unfolding state_after
state_small state zero h = h
state_small state (suc rounds) h = mod-lt (1103515245 * state_after state rounds + 12345) (omega arith)

number_in_range : (n : ℕ) → n < 2147483648 → IsValue (pos n)
number_in_range n h = (omega (arith, ints), omega (arith, ints))

-- what mixing gives is in range, whatever is mixed
pub mix_in_range : (z : ℤ) (rounds : ℕ) → IsValue (mix z rounds)
mix_in_range z rounds =
    number_in_range (state_after (residue z 2147483648) rounds)
    (state_small (residue z 2147483648) rounds (residue_small z))

-- ---- what entries say

-- an entry that names an exception in range, or none
pub named_fields : (order : CoverOrder) (e : Entry) (o : Option ℕ) → ((x : ℕ) → o ≡ Some x → x < order.count)
    → Names e o → e.value ≡ pos 0 → MayShowException order 1 2 e
named_fields order e None below h v =
    record { mark = rw h.0 (omega arith); named = λ m. absurd (omega (arith, h.0)); bare = λ n. h.1; value = v }
named_fields order e (Some x) below h v =
    record { mark = rw h.0 (omega arith); named = λ m. rw h.1 (below x refl); bare = λ n. absurd (n h.0); value = v }

-- an entry that says a verdict in range
said_fields : (order : CoverOrder) (e : Entry) (v : Verdict) → verdict_in_range order.count v ≡ true → SaysVerdict e v
    → e.value ≡ pos 0 → MayShowException order 1 3 e
said_fields order e verdict.Done below h v =
    record { mark = rw h.0 (omega arith); named = λ m. absurd (omega (arith, h.0)); bare = λ n. h.1; value = v }
said_fields order e (verdict.Signal x) below h v =
    record {
      mark = rw h.0 (omega arith);
      named = λ m. rw h.1 (ltb-true x order.count below);
      bare = λ n. absurd (n h.0);
      value = v;
    }
said_fields order e verdict.Undo below h v =
    record { mark = rw h.0 (omega arith); named = λ m. absurd (omega (arith, h.0)); bare = λ n. h.1; value = v }

-- what an abort names is in range where its row is
pub abort_below : (count : ℕ) (row : AbortRow) (r : ℤ) (x : ℕ) → abort_in_range count row ≡ true → abort_of row r ≡ Some x → x < count
abort_below count abort.Never r x h w = absurd cc
abort_below count (abort.Always y) r x h w = let same : y ≡ x = cc in subst (λ a. a < count) same (ltb-true y count h)
abort_below count (abort.Where test v y) r x h w =
    elim (chosen (meets test v r) (Some y) None (Some x) w) [
      | inl z ↦ let same : y ≡ x = cc in subst (λ a. a < count) same (ltb-true y count (and_parts (is_value v) _ h).1)
      | inr z ↦ absurd cc
    ]

-- past the table of places nobody has a role
pub place_known : (plan : Plan) (p t : ℕ) → member t (roles_of plan p) ≡ true → p < length plan.places
place_known plan p t m = in_table plan.places p m
  where
    in_table : (rows : List PlaceRow) (p : ℕ) → member t (slice_index_or rows p no_place).roles ≡ true → p < length rows
    in_table [] p m = absurd (false≢true m)
    in_table (row ∷ rows) zero m = omega arith
    in_table (row ∷ rows) (suc p) m = let more = in_table rows p m in omega arith

-- the verdict that is due in a hot place: from a handler, or from a role without one
abbrev pub recovery_verdict : Plan → List Entry → ℕ → ℕ → Option Verdict
recovery_verdict plan past p t =
    cond (has_handled past p t) (cond (is_handling past p t) (handler_verdict plan past p t) None)
    (cond (has_given plan past p t) None (unhandled_verdict plan p t (exception_resolved past p)))

one_or_none : (P : ℕ → Type 0) (b : Bool) (x : ℕ) → (b ≡ true → P x) → All P (cond b (x ∷ []) [])
one_or_none P true x h = All-cons P x [] (h refl) (All-nil P)
one_or_none P false x h = All-nil P

module _ (plan : Plan) (playable : IsPlayable plan) where
  -- ---- steps

  -- the next step is in range
  pub step_fits : (past : List Entry) (p t : ℕ) (s : Step) → next_step plan past p t ≡ Some s
      → step_in_range (length plan.objects) (internal_of plan p).count s ≡ true
  step_fits past p t s h = playable.steps p t (exception_handled past p t) (position plan past p t) s h

  -- what the next step raises is an exception of the place
  pub raise_in_range : (past : List Entry) (p t x : ℕ) → next_raise plan past p t ≡ Some x → x < (internal_of plan p).count
  raise_in_range past p t x h = by_step (next_step plan past p t) refl h
    where
      by_step : (s : Option Step) → next_step plan past p t ≡ s → raise_of s (register plan past p t) ≡ Some x
          → x < (internal_of plan p).count
      by_step (Some (step.Raise y)) e h = let same : y ≡ x = cc in
          subst (λ a. a < (internal_of plan p).count) same (ltb-true y _ (step_fits past p t (step.Raise y) e))
      by_step (Some (step.Check test v y)) e h =
          elim (chosen (meets test v (register plan past p t)) (Some y) None (Some x) h) [
            | inl z ↦
                let same : y ≡ x = cc in
                subst (λ a. a < (internal_of plan p).count) same
                (ltb-true y _ (and_parts (is_value v) _ (step_fits past p t (step.Check test v y) e)).1)
            | inr z ↦ absurd cc
          ]
      by_step None e h = absurd cc
      by_step (Some (step.Read o)) e h = absurd cc
      by_step (Some (step.Put o v)) e h = absurd cc
      by_step (Some (step.Add o v)) e h = absurd cc
      by_step (Some (step.Work k)) e h = absurd cc
      by_step (Some (step.Enter k)) e h = absurd cc

  -- what it puts is a value, in an object of the plan
  pub put_in_range : (past : List Entry) (p t o : ℕ) (v : ℤ)
      → put_of (next_step plan past p t) (register plan past p t) ≡ Some (o, v) → (o < length plan.objects) × IsValue v
  put_in_range past p t o v h = by_step (next_step plan past p t) refl h
    where
      by_step : (s : Option Step) → next_step plan past p t ≡ s → put_of s (register plan past p t) ≡ Some (o, v)
          → (o < length plan.objects) × IsValue v
      by_step (Some (step.Put a w)) e h =
          let same = some_pair_parts a o w v h in
          let fits = and_parts _ (is_value w) (step_fits past p t (step.Put a w) e) in
          (subst (λ b. b < length plan.objects) same.0 (ltb-true a _ fits.0), subst IsValue same.1 (value_from w fits.1))
      by_step (Some (step.Add a w)) e h =
          let same = some_pair_parts a o (clamped (register plan past p t +ℤ w)) v h in
          let fits = and_parts _ (is_value w) (step_fits past p t (step.Add a w) e) in (
            subst (λ b. b < length plan.objects) same.0 (ltb-true a _ fits.0),
            subst IsValue same.1 (clamped_in_range (register plan past p t +ℤ w)),
          )
      by_step None e h = absurd cc
      by_step (Some (step.Read a)) e h = absurd cc
      by_step (Some (step.Work k)) e h = absurd cc
      by_step (Some (step.Check test w x)) e h = absurd cc
      by_step (Some (step.Raise x)) e h = absurd cc
      by_step (Some (step.Enter k)) e h = absurd cc

  -- ---- what is raised

  mapped_in_range : (p q : ℕ) (end abort : Option Entry) (x : ℕ) → parent plan q ≡ Some p
      → outcome_mapped plan q end abort ≡ Some x → x < (internal_of plan p).count
  mapped_in_range p q None abort x up h = absurd cc
  mapped_in_range p q (Some end) abort x up h = by_outcome (outcome_at end) h
    where
      maps : ((x : ℕ) → map_signal plan q x < (internal_of plan p).count)
          × ((nest_of plan q).undo < (internal_of plan p).count)
          × ((nest_of plan q).failure < (internal_of plan p).count)
      maps = playable.maps p q up

      from_row : (y : ℕ) → y < (internal_of plan p).count → Some y ≡ Some x → x < (internal_of plan p).count
      from_row y l w = let same : y ≡ x = cc in subst (λ a. a < (internal_of plan p).count) same l

      from_abort : (abort : Option Entry) → abort_mapped plan q abort ≡ Some x → x < (internal_of plan p).count
      from_abort None w = absurd cc
      from_abort (Some e) w = elim (chosen (e.mark == 1) (Some (map_signal plan q e.arg)) None (Some x) w) [
        | inl z ↦ from_row (map_signal plan q e.arg) (maps.0 e.arg) z.1
        | inr z ↦ absurd cc
      ]

      by_outcome : (o : Outcome) → mapped_by_outcome plan q abort o ≡ Some x → x < (internal_of plan p).count
      by_outcome outcome.Commit w = absurd cc
      by_outcome (outcome.Signal y) w = from_row (map_signal plan q y) (maps.0 y) w
      by_outcome outcome.Undone w = from_row (nest_of plan q).undo maps.1 w
      by_outcome outcome.Aborted w = from_abort abort w
      by_outcome outcome.Failed w = from_row (nest_of plan q).failure maps.2 w

  -- what is carried out of a place is an exception of the place round it
  pub carried_in_range : (past : List Entry) (p q t x : ℕ) → parent plan q ≡ Some p
      → exception_carried plan past q t ≡ Some x → x < (internal_of plan p).count
  carried_in_range past p q t x up h =
      elim (chosen (is_deaf plan past (parent plan q) || is_left_in_silence plan past q) None _ (Some x) h) [
        | inl z ↦ absurd cc
        | inr z ↦ mapped_in_range p q (newest (is_in kind.End q) past) (newest (is_by kind.Abort q t) past) x up z.1
      ]

  abbrev AreExceptions : ℕ → List ℕ → Type 0
  AreExceptions p xs = All (λ x. x < (internal_of plan p).count) xs

  raises_in_range : (past : List Entry) (k : Kind) (e : Entry) (p : ℕ) → LegalPast plan past
      → Row k plan past (of_kind k e) → AreExceptions p (raises_in plan past p (of_kind k e) k)
  raises_in_range past kind.Raise e p legal h =
      one_or_none (λ x. x < (internal_of plan p).count) (e.place == p) e.arg
      (λ w. subst (λ a. e.arg < (internal_of plan a).count) (eqb-true e.place p w)
      (raise_in_range past e.place e.by e.arg h.raises))
  raises_in_range past kind.PutFault e p legal h =
      one_or_none (λ x. x < (internal_of plan p).count) ((e.place == p) && not (has_handled past p e.by))
      (fault_of plan p) (λ w. playable.faults p e.by
      (subst (λ a. member e.by (roles_of plan a) ≡ true) (eqb-true e.place p (and_parts (e.place == p) _ w).0)
      (maker_role plan playable.tree past (of_kind kind.PutFault e) legal h)))
  raises_in_range past kind.Leave e p legal h =
      one_or_none (λ x. x < (internal_of plan p).count) (is_at (parent plan e.place) p && (e.mark == 1)) e.arg (λ w.
      let parts = and_parts (is_at (parent plan e.place) p) (e.mark == 1) w in
      (named_fields (internal_of plan p) (of_kind kind.Leave e) (exception_carried plan past e.place e.by)
      (λ x. carried_in_range past p e.place e.by x (at_same (parent plan e.place) p parts.0)) h.carries
      h.value).named (eqb-true e.mark 1 parts.1))
  raises_in_range past _ e p legal h = All-nil (λ x. x < (internal_of plan p).count)

  -- all that is raised in a place are exceptions of it
  pub raised_in_range : (past : List Entry) → LegalPast plan past → (p : ℕ) → AreExceptions p (exceptions_raised plan past p)
  raised_in_range [] h p = All-nil (λ x. x < (internal_of plan p).count)
  raised_in_range (e ∷ past) h p =
      All-append (λ x. x < (internal_of plan p).count) (raises_in plan past p e e.kind) (exceptions_raised plan past p)
      (raises_in_range past e.kind e p h.0 h.1) (raised_in_range past h.0 p)

  -- ---- what is signalled

  final_in_range : (past : List Entry) (p t : ℕ) (v : Verdict) → final_verdict plan past p t ≡ Some v
      → verdict_in_range (interface_of plan p).count v ≡ true
  final_in_range past p t v h =
      elim (chosen (is_none (next_step plan past p t)) (Some (program_of plan past p t).verdict) None (Some v) h) [
        | inl z ↦
            let same : (program_of plan past p t).verdict ≡ v = cc in
            subst (λ a. verdict_in_range (interface_of plan p).count a ≡ true) same (playable.says p t (exception_handled past p t))
        | inr z ↦ absurd cc
      ]

  undo_in_range : (count : ℕ) (v : Verdict) → Some verdict.Undo ≡ Some v → verdict_in_range count v ≡ true
  undo_in_range count v h = let same : verdict.Undo ≡ v = cc in subst (λ a. verdict_in_range count a ≡ true) same refl

  unhandled_in_range : (p t : ℕ) (o : Option ℕ) (v : Verdict) → unhandled_verdict plan p t o ≡ Some v
      → verdict_in_range (interface_of plan p).count v ≡ true
  unhandled_in_range p t None v h = absurd cc
  unhandled_in_range p t (Some x) v h =
      elim (chosen (is_none (handler_of plan p t x)) (Some verdict.Undo) None
      (Some v) h) [ inl z ↦ undo_in_range _ v z.1 | inr z ↦ absurd cc ]

  handler_in_range : (past : List Entry) (p t : ℕ) (v : Verdict) → handler_verdict plan past p t ≡ Some v
      → verdict_in_range (interface_of plan p).count v ≡ true
  handler_in_range past p t v h =
      elim (chosen (breaks_off plan past p t) (Some verdict.Undo) (final_verdict plan past p t)
      (Some v) h) [ inl z ↦ undo_in_range _ v z.1 | inr z ↦ final_in_range past p t v z.1 ]

  hot_in_range : (past : List Entry) (p t : ℕ) (v : Verdict) → recovery_verdict plan past p t ≡ Some v
      → verdict_in_range (interface_of plan p).count v ≡ true
  hot_in_range past p t v h =
      elim (chosen (has_handled past p t) _ _ (Some v) h) [
        | inl a ↦
            elim (chosen (is_handling past p t) (handler_verdict plan past p t) None
            (Some v) a.1) [ inl b ↦ handler_in_range past p t v b.1 | inr b ↦ absurd cc ]
        | inr a ↦
            elim (chosen (has_given plan past p t) None (unhandled_verdict plan p t (exception_resolved past p))
            (Some v) a.1) [ inl b ↦ absurd cc | inr b ↦ unhandled_in_range p t (exception_resolved past p) v b.1 ]
      ]

  due_in_range : (past : List Entry) (p t : ℕ) (v : Verdict) → verdict_due plan past p t ≡ Some v
      → verdict_in_range (interface_of plan p).count v ≡ true
  due_in_range past p t v h =
      elim (chosen (is_calm plan past p) (cond (has_given plan past p t) None (final_verdict plan past p t)) _ (Some v) h) [
        | inl a ↦
            elim (chosen (has_given plan past p t) None (final_verdict plan past p t)
            (Some v) a.1) [ inl b ↦ absurd cc | inr b ↦ final_in_range past p t v b.1 ]
        | inr a ↦ elim (chosen (not (is_hot plan past p)) None _ (Some v) a.1) [ inl b ↦ absurd cc | inr b ↦ hot_in_range past p t v b.1 ]
      ]

  -- a verdict signals an exception that its place tells outside
  pub verdict_fields : (past : List Entry) (e : Entry) → MayVerdict plan past e → MayShowException (interface_of plan e.place) 1 3 e
  verdict_fields past e h = by_due (verdict_due plan past e.place e.by) refl h.due
    where
      by_due : (o : Option Verdict) → verdict_due plan past e.place e.by ≡ o → MatchOption o ⊥ (SaysVerdict e)
          → MayShowException (interface_of plan e.place) 1 3 e
      by_due None d s = elim s [ ]
      by_due (Some v) d s = said_fields (interface_of plan e.place) e v (due_in_range past e.place e.by v d) s h.value

  abbrev SignalFits : List Entry → ℕ → ℕ → Type 0
  SignalFits past p t = (x : ℕ) → verdict_of past p t ≡ Some (verdict.Signal x) → x < (interface_of plan p).count

  signal_fits_by : (past : List Entry) (k : Kind) (e : Entry) (p t : ℕ) → SignalFits past p t
      → Row k plan past (of_kind k e) → SignalFits (of_kind k e ∷ past) p t
  signal_fits_by past kind.Verdict e p t ih h x w =
      elim (chosen ((e.place == p) && (e.by == t)) (Some (verdict_at e)) (verdict_of past p t) (Some (verdict.Signal x)) w) [
        | inl z ↦
            let said : verdict_at e ≡ verdict.Signal x = cc in
            subst (λ a. x < (interface_of plan a).count) (eqb-true e.place p (and_parts (e.place == p) (e.by == t) z.0).0) (from_mark said)
        | inr z ↦ ih x z.1
      ]
    where
      from_mark : verdict_at e ≡ verdict.Signal x → x < (interface_of plan e.place).count
      from_mark said =
          elim (chosen (e.mark == 0) verdict.Done _ (verdict.Signal x) said) [
            | inl a ↦ absurd cc
            | inr a ↦ elim (chosen (e.mark == 1) (verdict.Signal e.arg) verdict.Undo (verdict.Signal x) a.1) [
              | inl b ↦
                  let same : e.arg ≡ x = cc in
                  subst (λ y. y < (interface_of plan e.place).count) same
                  ((verdict_fields past (of_kind kind.Verdict e) h).named (eqb-true e.mark 1 b.0))
              | inr b ↦ absurd cc
            ]
          ]
  signal_fits_by past _ e p t ih h x w = ih x w

  signal_fits : (past : List Entry) → LegalPast plan past → (p t : ℕ) → SignalFits past p t
  signal_fits [] h p t x w = absurd cc
  signal_fits (e ∷ past) h p t x w = signal_fits_by past e.kind e p t (signal_fits past h.0 p t) h.1 x w

  -- all that is signalled in a place are exceptions that it tells outside
  pub signals_in_range : (past : List Entry) → LegalPast plan past → (p : ℕ) (ts : List ℕ)
      → All (λ x. x < (interface_of plan p).count) (signals past p ts)
  signals_in_range past legal p [] = All-nil (λ x. x < (interface_of plan p).count)
  signals_in_range past legal p (t ∷ ts) =
      All-append (λ x. x < (interface_of plan p).count) (signal_in (verdict_of past p t)) (signals past p ts)
      (by_verdict (verdict_of past p t) refl) (signals_in_range past legal p ts)
    where
      by_verdict : (o : Option Verdict) → verdict_of past p t ≡ o → All (λ x. x < (interface_of plan p).count) (signal_in o)
      by_verdict None w = All-nil (λ x. x < (interface_of plan p).count)
      by_verdict (Some verdict.Done) w = All-nil (λ x. x < (interface_of plan p).count)
      by_verdict (Some (verdict.Signal x)) w =
          All-cons (λ x. x < (interface_of plan p).count) x [] (signal_fits past legal p t x w)
          (All-nil (λ x. x < (interface_of plan p).count))
      by_verdict (Some verdict.Undo) w = All-nil (λ x. x < (interface_of plan p).count)

  -- ---- what objects hold

  abbrev AreValues : List Entry → Type 0
  AreValues past = (o : ℕ) (us : List ℕ) → IsValue (value_outside plan past o us)

  values_by : (past : List Entry) (k : Kind) (e : Entry) → AreValues past → Row k plan past (of_kind k e) → AreValues (of_kind k e ∷ past)
  values_by past kind.Write e ih h o us =
      elim (cases_Bool ((e.arg == o) && not (is_within_any plan e.place us))) [
        | inl x ↦ rw x (put_in_range past e.place e.by e.arg e.value h.puts).1
        | inr x ↦ rw x (ih o us)
      ]
  values_by past k e ih h o us = ih o (places_undone o (of_kind k e) us)

  -- each object holds a value, whatever is left out
  pub values_in_range : (past : List Entry) → LegalPast plan past → AreValues past
  values_in_range [] h o us = playable.valued o
  values_in_range (e ∷ past) h o us = values_by past e.kind e (values_in_range past h.0) h.1 o us
