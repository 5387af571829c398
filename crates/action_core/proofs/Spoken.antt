-- What each kind of entry does to what the roles of a place have said, and that it may.
use Rattle.std.proofs.Common.{◌≡◌, ◌∙◌, ℕ, zero, suc, ◌==◌, ◌<◌, Bool, true, false, not, cond, ◌&&◌, ◌||◌, List, [], ◌∷◌, ◌++◌, Option, Some, None, IfSome, MatchOption, length, slice_get, refl, sym, ap, subst, arith, inl, inr}
use Rattle.std.proofs.lemmas.Bool.{cases_Bool, eqb-true, eq-eqb, false≢true}
use Rattle.caa_base.specs.declared.written.entry.Entry.{Entry}
use Rattle.caa_base.specs.declared.written.entry.Kind.{Kind}
use Rattle.caa_base.specs.declared.written.entry.Kind.TheVariants as kind
use Rattle.caa_base.specs.declared.written.entry.Verdict.TheVariants as verdict
use Rattle.caa_base.specs.Written.Lists.{is_empty, is_at}
use Rattle.caa_base.specs.Written.Marks.{verdict_of_mark}
use Rattle.place_plan.specs.Plans.PlanValue.{Plan}
use Rattle.place_plan.specs.Plans.Places.{parent, objects_of, interface_of, fault_of}
use Rattle.place_plan.specs.Plans.Closed.{IsClosed}
use Rattle.place_plan.specs.RulesOfJournals.Entries.{is_by}
use Rattle.place_plan.specs.RulesOfJournals.Raising.{raises_in, exceptions_raised, is_raised, is_calm, is_hot, has_handled, exception_resolved}
use Rattle.place_plan.specs.RulesOfJournals.Roles.{has_given, is_handling}
use Rattle.place_plan.specs.RulesOfJournals.Rules.{Row, SaysVerdict, MayVerdict, MayRestore, MayFollow, handler_verdict, unhandled_verdict, final_verdict}
use Rattle.place_plan.specs.RulesOfJournals.Journals.{LegalPast}
use Rattle.place_plan.proofs.OnJournals.EntryKinds.{of_kind}
use Rattle.journal_laws.proofs.Playable.{IsPlayable}
use Rattle.journal_laws.proofs.CoreKept.{core}
use Rattle.journal_laws.proofs.Makers.{maker_role}
use Rattle.journal_laws.proofs.Phases.{hot_open}
use Rattle.journal_laws.proofs.Ranges.{verdict_fields, place_known}
use Rattle.journal_laws.proofs.Raised.{parent_round}
use Rattle.journal_laws.proofs.Recovering.{handling_given}
use Rattle.resolution_core.specs.inner.Standing.{Acts}
use Rattle.action_endings.specs.declared.ending.Ending.{Ending}
use Rattle.action_endings.specs.inner.KeptEndings.{at, tried_kept, SignalsBelow, exception_named, StandsFor}
use Rattle.action_endings.specs.inner.ChangedEndings.{MaySay, is_apart, RaisesFirst, NoneCounts, Says, LeavesEndings}
use Rattle.action_endings.proofs.RightAnswers.{next_right}
use Rattle.action_core.proofs.Giving.{raises_first, given_next}
use Rattle.action_endings.proofs.EndingsKept.{others_keep}
use Rattle.action_core.specs.inner.Raisings.{RaisesIn}
use Rattle.action_core.proofs.Acting.{raise_acts, fault_acts, carries_acts, fault_idle, leave_idle}
use Rattle.action_core.proofs.Makers.{maker_known, place_there, at_kind, fields_fit}

-- ---- what is raised

some_raised : (b : Bool) (x : ℕ) (ys : List ℕ) → not (is_empty (cond b (x ∷ []) [] ++ ys)) ≡ (b || not (is_empty ys))
some_raised true x ys = refl
some_raised false x ys = refl

none_at : (b : Bool) (x : ℕ) → b ≡ false → cond b (x ∷ []) [] ≡ []
none_at true x h = absurd (false≢true (sym h))
none_at false x h = refl

one_at : (b : Bool) (x : ℕ) → b ≡ true → cond b (x ∷ []) [] ≡ x ∷ []
one_at true x h = refl
one_at false x h = absurd (false≢true h)

dropped : (b g : Bool) → b ≡ false → cond (not b) false g ≡ false
dropped true g h = absurd (false≢true (sym h))
dropped false g h = refl

either_or : (b x : Bool) → (b ≡ true → x ≡ true) → (b || x) ≡ x
either_or true x h = sym (h refl)
either_or false x h = refl

module _ (plan : Plan) (playable : IsPlayable plan) (past : List Entry) (e : Entry) (legal : LegalPast plan past)
    (may : MayFollow plan past e) where
  -- an entry that is apart says no verdict
  no_verdict : (k : Kind) (f : Entry) (q t : ℕ) → is_apart (of_kind k f) ≡ true → is_by kind.Verdict q t (of_kind k f) ≡ false
  no_verdict kind.Verdict f q t h = absurd (false≢true h)
  no_verdict _ f q t h = refl

  -- so by it only those verdicts count no more where it raises something first
  counts_after : (q t : ℕ) → is_apart e ≡ true
      → has_given plan (e ∷ past) q t ≡ cond (raises_first plan past q e e.kind) false (has_given plan past q t)
  counts_after q t apart =
      given_next plan playable.tree past legal e.kind e q t may
      ∙ ap (λ b. cond (raises_first plan past q e e.kind) false (b || has_given plan past q t)) (no_verdict e.kind e q t apart)

  module _ (p x : ℕ) (acts : Acts plan past e p e.by (x ∷ []) true false) (apart : is_apart e ≡ true) where
    raised_after : (q : ℕ) → is_raised plan (e ∷ past) q ≡ ((p == q) || is_raised plan past q)
    raised_after q =
        ap (λ (xs : List ℕ). not (is_empty (xs ++ exceptions_raised plan past q))) (acts.raises q)
        ∙ some_raised (p == q) x (exceptions_raised plan past q)

    elsewhere : (q t : ℕ) → (p == q) ≡ false → has_given plan (e ∷ past) q t ≡ has_given plan past q t
    elsewhere q t other =
        counts_after q t apart
        ∙ ap (λ (xs : List ℕ). cond (not (is_empty xs) && not (is_raised plan past q)) false (has_given plan past q t))
        (acts.raises q ∙ none_at (p == q) x other)

    pub first_raised : RaisesFirst plan past e p
    first_raised = record { apart = apart; raises = raised_after; counts = elsewhere }

    -- in p no verdict counts, where nothing was raised there
    pub none_counts : is_raised plan past p ≡ false → NoneCounts plan (e ∷ past) p
    none_counts calm =
        λ t. counts_after p t apart
        ∙ ap (λ (xs : List ℕ). cond (not (is_empty xs) && not (is_raised plan past p)) false (has_given plan past p t))
        (acts.raises p ∙ one_at (p == p) x (eq-eqb p p refl))
        ∙ dropped (is_raised plan past p) (has_given plan past p t) calm

    -- where something was, nothing changes
    pub raised_again : is_raised plan past p ≡ true → LeavesEndings plan past e
    raised_again up = record {
      apart = apart;
      raises =
          λ q. raised_after q
          ∙ either_or (p == q) (is_raised plan past q) (λ w. subst (λ r. is_raised plan past r ≡ true) (eqb-true p q w) up);
      counts = λ q t. elim (cases_Bool (p == q)) [
        | inl same ↦
            let up_here : is_raised plan past q ≡ true = subst (λ r. is_raised plan past r ≡ true) (eqb-true p q same) up in
            counts_after q t apart
            ∙ ap (λ b. cond (not (is_empty (raises_in plan past q e e.kind)) && not b) false (has_given plan past q t)) up_here
            ∙ stays (not (is_empty (raises_in plan past q e e.kind))) (has_given plan past q t)
        | inr other ↦ elsewhere q t other
      ];
    }
      where
        stays : (b g : Bool) → cond (b && false) false g ≡ g
        stays true g = refl
        stays false g = refl

  -- so it is where nothing is raised
  pub unraised : ((q : ℕ) → raises_in plan past q e e.kind ≡ []) → is_apart e ≡ true → LeavesEndings plan past e
  unraised none apart = record {
    apart = apart;
    raises = λ q. ap (λ (xs : List ℕ). not (is_empty (xs ++ exceptions_raised plan past q))) (none q);
    counts =
        λ q u. counts_after q u apart
        ∙ ap (λ (xs : List ℕ). cond (not (is_empty xs) && not (is_raised plan past q)) false (has_given plan past q u)) (none q);
  }

  -- who says something in a place has a role there
  pub may_say : (endings : List Ending) → StandsFor plan past endings → MaySay plan endings e.place e.by
  may_say endings s = record {
    there = subst (λ n. e.place < n) (sym s.as_many) (place_there plan playable past e legal may);
    known = maker_known plan playable past e legal may;
    role = maker_role plan playable.tree past e legal may;
  }

-- ---- verdicts

-- who gives a verdict has none that counts
pub unsaid : (plan : Plan) → IsPlayable plan → (past : List Entry) (e : Entry) → LegalPast plan past → MayVerdict plan past e
    → has_given plan past e.place e.by ≡ false
unsaid plan playable past e legal h =
    by_tests (is_calm plan past e.place) (is_hot plan past e.place) refl (has_handled past e.place e.by) refl
    (is_handling past e.place e.by) refl (has_given plan past e.place e.by) refl (exception_resolved past e.place) h.due
  where
    by_tests : (calm hot : Bool) → is_hot plan past e.place ≡ hot → (handled : Bool) → has_handled past e.place e.by ≡ handled
        → (handling : Bool) → is_handling past e.place e.by ≡ handling → (given : Bool) → has_given plan past e.place e.by ≡ given
        → (o : Option ℕ)
        → MatchOption
        (cond calm (cond given None (final_verdict plan past e.place e.by))
        (cond (not hot) None (cond handled (cond handling (handler_verdict plan past e.place e.by) None)
        (cond given None (unhandled_verdict plan e.place e.by o)))))
        ⊥ (SaysVerdict e)
        → has_given plan past e.place e.by ≡ false
    by_tests calm hot hv handled dv handling gv false v o due = v
    by_tests true hot hv handled dv handling gv true v o due = absurd due
    by_tests false false hv handled dv handling gv true v o due = absurd due
    by_tests false true hv false dv handling gv true v o due = absurd due
    by_tests false true hv true dv false gv true v o due = absurd due
    by_tests false true hv true dv true gv true v o due =
        handling_given plan playable (core plan playable) past legal e.place e.by (hot_open plan past e.place hv).1 dv ∙ ap not gv

-- its verdict signals an exception that its place tells outside
pub verdict_below : (plan : Plan) → IsPlayable plan → (past : List Entry) (e : Entry) → MayVerdict plan past e
    → SignalsBelow (interface_of plan e.place).count (verdict_of_mark e.mark e.arg)
verdict_below plan playable past e h = by_marks (e.mark == 0) (e.mark == 1) refl
  where
    by_marks : (done one : Bool) → (e.mark == 1) ≡ one
        → SignalsBelow (interface_of plan e.place).count (cond done verdict.Done (cond one (verdict.Signal e.arg) verdict.Undo))
    by_marks true one w = tt
    by_marks false true w = (verdict_fields plan playable past e h).named (eqb-true e.mark 1 w)
    by_marks false false w = tt

-- and counts from then on
pub says : (plan : Plan) → IsPlayable plan → (past : List Entry) (k : Kind) (e : Entry) → LegalPast plan past
    → k ≡ kind.Verdict → Row k plan past (of_kind k e) → Says plan past (of_kind k e) e.place e.by (verdict_of_mark e.mark e.arg)
says plan playable past kind.Verdict e legal is h = record {
  gives = refl;
  here = refl;
  own = refl;
  says = refl;
  counts =
      given_next plan playable.tree past legal kind.Verdict e e.place e.by h
      ∙ rw (eq-eqb e.place e.place refl, eq-eqb e.by e.by refl) refl;
}
says plan playable past _ e legal is h = absurd cc

-- ---- restores

number_of : (xs : List ℕ) (n x : ℕ) → slice_get xs n ≡ Some x → n < length xs
number_of [] n x h = absurd cc
number_of (y ∷ ys) zero x h = omega arith
number_of (y ∷ ys) (suc n) x h = let l = number_of ys n x h in omega arith

-- what is restored is the next by what is kept
pub next_kept : (plan : Plan) → IsClosed plan → (past : List Entry) (e : Entry) (endings : List Ending)
    → StandsFor plan past endings → MayRestore plan past e
    → slice_get (objects_of plan e.place) (tried_kept plan e.place (at endings e.place)) ≡ Some e.arg
next_kept plan closed past e endings s h = next_right plan closed past endings e.place s ∙ h.least

-- so one is left to be tried
pub some_untried : (plan : Plan) → IsClosed plan → (past : List Entry) (e : Entry) (endings : List Ending)
    → StandsFor plan past endings → MayRestore plan past e → 0 < (at endings e.place).untried
some_untried plan closed past e endings s h =
    let few = (s.rest e.place).few in
    let low =
    number_of (objects_of plan e.place) (tried_kept plan e.place (at endings e.place)) e.arg
    (next_kept plan closed past e endings s h) in
    omega (arith, few, low)

-- its mark says whether it went well
pub restored_well : (plan : Plan) (past : List Entry) (e : Entry) → MayRestore plan past e → (e.mark == 1) ≡ not (e.mark == 0)
restored_well plan past e h = by_marks (e.mark == 0) (e.mark == 1) refl refl h.mark
  where
    by_marks : (zero one : Bool) → (e.mark == 0) ≡ zero → (e.mark == 1) ≡ one → zero || one ≡ true → one ≡ not zero
    by_marks true true z w h =
        let a = eqb-true e.mark 0 z in
        let b = eqb-true e.mark 1 w in
        absurd (omega arith)
    by_marks true false z w h = refl
    by_marks false true z w h = refl
    by_marks false false z w h = absurd (false≢true h)

-- ---- the kinds that raise something

module _ (plan : Plan) (past : List Entry) (e : Entry) where
  pub raise_raises : e.kind ≡ kind.Raise → RaisesIn plan past e e.place
  raise_raises h =
      at_kind (λ x. RaisesIn plan past x e.place) kind.Raise e h
      (record { exception = e.arg; acts = raise_acts plan past e; apart = refl })

  pub fault_raises : e.kind ≡ kind.PutFault → has_handled past e.place e.by ≡ false → RaisesIn plan past e e.place
  fault_raises h fresh =
      at_kind (λ x. RaisesIn plan past x e.place) kind.PutFault e h
      (record { exception = fault_of plan e.place; acts = fault_acts plan past e fresh; apart = refl })

  pub carry_raises : (p : ℕ) → e.kind ≡ kind.Leave → parent plan e.place ≡ Some p → e.mark ≡ 1 → RaisesIn plan past e p
  carry_raises p h into one =
      at_kind (λ x. RaisesIn plan past x p) kind.Leave e h
      (record { exception = e.arg; acts = carries_acts plan past e p into one; apart = refl })

-- ---- and those that leave what was said

abbrev pub unsaying : Kind → Bool
unsaying kind.Raise = false
unsaying kind.PutFault = false
unsaying kind.Leave = false
unsaying kind.Verdict = false
unsaying kind.Abort = false
unsaying kind.Undo = false
unsaying kind.Restore = false
unsaying _ = true

nothing_raised_by : (plan : Plan) (past : List Entry) (k : Kind) (e : Entry) (q : ℕ) → unsaying k ≡ true
    → raises_in plan past q (of_kind k e) k ≡ []
nothing_raised_by plan past kind.Raise e q w = absurd (false≢true w)
nothing_raised_by plan past kind.PutFault e q w = absurd (false≢true w)
nothing_raised_by plan past kind.Leave e q w = absurd (false≢true w)
nothing_raised_by plan past k e q w = refl

apart_by : (k : Kind) (e : Entry) → unsaying k ≡ true → is_apart (of_kind k e) ≡ true
apart_by kind.Verdict e w = absurd (false≢true w)
apart_by kind.Abort e w = absurd (false≢true w)
apart_by kind.Undo e w = absurd (false≢true w)
apart_by kind.Restore e w = absurd (false≢true w)
apart_by k e w = refl

pub endings_stay : (plan : Plan) → IsPlayable plan → (past : List Entry) (e : Entry) (endings : List Ending)
    → LegalPast plan past → MayFollow plan past e → unsaying e.kind ≡ true → StandsFor plan past endings
    → StandsFor plan (e ∷ past) endings
endings_stay plan playable past e endings legal may w s =
    others_keep plan past e endings
    (unraised plan playable past e legal may (λ q. nothing_raised_by plan past e.kind e q w) (apart_by e.kind e w)) s

-- no exceptions
abbrev nothing : List ℕ
nothing = []

quiet : (plan : Plan) (past : List Entry) (e : Entry) (p t : ℕ) (halts resolves : Bool)
    → Acts plan past e p t [] halts resolves → (q : ℕ) → raises_in plan past q e e.kind ≡ []
quiet plan past e p t halts resolves acts q = acts.raises q ∙ none (p == q)
  where
    none : (b : Bool) → cond b nothing nothing ≡ nothing
    none true = refl
    none false = refl

module _ (plan : Plan) (playable : IsPlayable plan) (past : List Entry) (e : Entry) (legal : LegalPast plan past)
    (may : MayFollow plan past e) where
  pub quiet_stay : (p t : ℕ) (halts resolves : Bool) (endings : List Ending) → Acts plan past e p t [] halts resolves
      → is_apart e ≡ true → StandsFor plan past endings → StandsFor plan (e ∷ past) endings
  quiet_stay p t halts resolves endings acts apart s =
      others_keep plan past e endings (unraised plan playable past e legal may (quiet plan past e p t halts resolves acts) apart)
      s

  -- a put that is refused in a handler
  pub fault_stay : (endings : List Ending) → e.kind ≡ kind.PutFault → has_handled past e.place e.by ≡ true
      → StandsFor plan past endings → StandsFor plan (e ∷ past) endings
  fault_stay endings h done s =
      quiet_stay e.place e.by false false endings
      (at_kind (λ x. Acts plan past x e.place e.by [] false false) kind.PutFault e h (fault_idle plan past e done))
      (at_kind (λ x. is_apart x ≡ true) kind.PutFault e h refl) s

  -- a leave that carries nothing
  pub leave_stay : (endings : List Ending) → e.kind ≡ kind.Leave
      → ((q : ℕ) → (is_at (parent plan e.place) q && (e.mark == 1)) ≡ false) → StandsFor plan past endings
      → StandsFor plan (e ∷ past) endings
  leave_stay endings h none s =
      quiet_stay e.place e.by false false endings
      (at_kind (λ x. Acts plan past x e.place e.by [] false false) kind.Leave e h (leave_idle plan past e e.place none))
      (at_kind (λ x. is_apart x ≡ true) kind.Leave e h refl) s

  -- the place into which an exception is carried
  pub carried_there : (p : ℕ) → parent plan e.place ≡ Some p → p < length plan.places
  carried_there p into =
      place_known plan p e.by
      (playable.tree.roles_in p e.place e.by (parent_round plan playable.tree e.place p into)
      (maker_role plan playable.tree past e legal may))

  -- what an abort names is an exception that its place tells outside
  pub abort_below_names : e.kind ≡ kind.Abort → IfSome (exception_named e) (λ x. x < (interface_of plan e.place).count)
  abort_below_names h = by_mark (e.mark == 1) refl
    where
      by_mark : (b : Bool) → (e.mark == 1) ≡ b → IfSome (cond b (Some e.arg) None) (λ x. x < (interface_of plan e.place).count)
      by_mark true w = (fields_fit plan playable past e legal may kind.Abort h).named (eqb-true e.mark 1 w)
      by_mark false w = tt
