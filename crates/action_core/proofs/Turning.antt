-- One entry more: how what is kept of the participants goes on standing for the journal.
use Rattle.std.proofs.Common.{◌≡◌, ◌∙◌, ℕ, suc, zero, ◌+◌, ◌==◌, ◌<◌, Bool, true, false, cond, ◌&&◌, ◌||◌, List, [], ◌∷◌, ◌++◌, Option, Some, None, is_none, length, slice_get, slice_set, slice_index_or, get_or-set_same, get_or-set_other, length-set, refl, sym, ap, subst, arith, inl, inr}
use Rattle.std.proofs.lemmas.Bool.{cases_Bool, cases_lt, eqb-true, eq-eqb, both_ways, false_from_ne_true, false≢true, and_parts, and_from, or_left, or_right}
use Rattle.std.proofs.Math.ListN.{get_or-append}
use Rattle.std.proofs.Math.Seq.{get_or-append_seam}
use Rattle.caa_base.specs.declared.written.entry.Entry.{Entry}
use Rattle.caa_base.specs.declared.written.entry.Kind.{Kind}
use Rattle.caa_base.specs.declared.written.entry.Kind.TheVariants as kind
use Rattle.caa_base.specs.Written.Lists.{member, first_of, first_not}
use Rattle.caa_base.specs.inner.Lists.{Rises}
use Rattle.caa_base.proofs.ListLemmas.{member_above}
use Rattle.place_plan.specs.Plans.PlanValue.{Plan}
use Rattle.place_plan.specs.Plans.Places.{around, parent, roles_of, plays_with}
use Rattle.place_plan.specs.RulesOfJournals.Entries.{is_of, is_in, is_by, has_by}
use Rattle.place_plan.specs.RulesOfJournals.Whereabouts.{inside, inside_after}
use Rattle.place_plan.specs.RulesOfJournals.Raising.{has_handled}
use Rattle.place_plan.specs.RulesOfJournals.Roles.{next_play, was_refused_in_handler}
use Rattle.place_plan.specs.RulesOfJournals.Rules.{Row, MayFollow}
use Rattle.place_plan.specs.RulesOfJournals.Journals.{LegalPast}
use Rattle.place_plan.proofs.OnJournals.EntryKinds.{of_kind}
use Rattle.place_plan.proofs.OnPlans.Casts.{member_at}
use Rattle.journal_laws.proofs.Playable.{IsPlayable}
use Rattle.journal_laws.proofs.Tree.{arrives_in}
use Rattle.journal_laws.proofs.Raised.{parent_round, raises}
use Rattle.journal_laws.proofs.Arrivals.{begins_play, fresh}
use Rattle.action_core.proofs.Blank.{blank}
use Rattle.action_core.specs.declared.person.Person.{Person}
use Rattle.action_core.specs.inner.KeptPeople.{nobody, at, play_at, opens_play, refused_after, IsNext, IsTurn, IsPersonOf, PersonOfEach}

-- ---- turns

-- the first play of t that fails a test, where those before a number pass and those from it on fail, is the one of that number
first_at : (plan : Plan) (t : ℕ) (test : ℕ → Bool) (ps : List ℕ) (turn : ℕ)
    →
    ((n : ℕ) → n < turn → n < length ps → member t (roles_of plan (slice_index_or ps n 0)) ≡ true → test (slice_index_or ps n 0) ≡ true)
    → (turn < length ps → test (slice_index_or ps turn 0) ≡ false)
    → (turn < length ps → member t (roles_of plan (slice_index_or ps turn 0)) ≡ true)
    → first_not test (plays_with plan t ps) ≡ slice_get ps turn
first_at plan t test [] turn before fails own = refl
first_at plan t test (p ∷ ps) zero before fails own =
    let role : member t (roles_of plan p) ≡ true = own (omega arith) in
    let failed : test p ≡ false = fails (omega arith) in
    rw (role, failed) refl
first_at plan t test (p ∷ ps) (suc turn) before fails own =
    by_role (member t (roles_of plan p)) refl
    (first_at plan t test ps turn (λ n l m. before (suc n) (omega (arith, l)) (omega (arith, m)))
    (λ l. fails (omega (arith, l))) (λ l. own (omega (arith, l))))
  where
    by_role : (b : Bool) → member t (roles_of plan p) ≡ b → first_not test (plays_with plan t ps) ≡ slice_get ps turn
        → first_not test (cond b (p ∷ plays_with plan t ps) (plays_with plan t ps)) ≡ slice_get ps turn
    by_role true w h =
        let passed : test p ≡ true = before 0 (omega arith) (omega arith) w in
        rw passed h
    by_role false w h = h

-- so the turn of t is the number of its next play
pub turn_next : (plan : Plan) (past : List Entry) (t turn : ℕ) → IsTurn plan past t turn
    → next_play plan past t ≡ slice_get plan.plays turn
turn_next plan past t turn s =
    first_at plan t (λ p. has_by kind.Arrive past p t) plan.plays turn s.before (λ l. s.after turn (omega arith) l) s.own

-- what is there has a number within
got_below : (xs : List ℕ) (n x : ℕ) → slice_get xs n ≡ Some x → (n < length xs) × (slice_index_or xs n 0 ≡ x)
got_below [] n x h = absurd cc
got_below (y ∷ ys) zero x h = (omega arith, cc)
got_below (y ∷ ys) (suc n) x h = let l = got_below ys n x h in (let m = l.0 in omega (arith, m), l.1)

-- of rising numbers a later one is greater
rises_at : (low : ℕ) (xs : List ℕ) (m n : ℕ) → Rises low xs → m < n → n < length xs
    → slice_index_or xs m 0 < slice_index_or xs n 0
rises_at low [] m n r l k = absurd (omega arith)
rises_at low (x ∷ xs) m zero r l k = absurd (omega arith)
rises_at low (x ∷ xs) zero (suc n) r l k =
    member_above (suc x) xs (slice_index_or xs n 0) r.1 (member_at xs n 0 (omega (arith, k)))
rises_at low (x ∷ xs) (suc m) (suc n) r l k = rises_at (suc x) xs m n r.1 (omega (arith, l)) (omega (arith, k))

-- ---- one entry more

kept_or : (b c x : Bool) → c ≡ false → ((b && c) || x) ≡ x
kept_or true c x h = rw h refl
kept_or false c x h = refl

left_or : (b c x : Bool) → b ≡ false → ((b && c) || x) ≡ x
left_or b c x h = rw h refl

module _ (plan : Plan) (playable : IsPlayable plan) (past : List Entry) (e : Entry) (legal : LegalPast plan past)
    (may : MayFollow plan past e) where
  -- a play has no place round it
  top_of_plays : (n : ℕ) → n < length plan.plays → is_none (parent plan (play_at plan n)) ≡ true
  top_of_plays n l =
      ap (λ (qs : List ℕ). is_none (first_of qs)) (playable.tree.tops (play_at plan n) (member_at plan.plays n 0 l))

  -- what is no arrival in a play is none in a play of this number
  no_opening : opens_play plan e ≡ false → (n : ℕ) → n < length plan.plays → is_in kind.Arrive (play_at plan n) e ≡ false
  no_opening shut n l = false_from_ne_true _ (λ w.
      let parts = and_parts (is_of kind.Arrive e) (e.place == play_at plan n) w in
      let top : is_none (parent plan e.place) ≡ true =
      ap (λ p. is_none (parent plan p)) (eqb-true e.place (play_at plan n) parts.1) ∙ top_of_plays n l in
      both_ways _ shut (and_from _ _ parts.0 top))

  turn_stays : (t turn : ℕ)
      →
      ((n : ℕ) → n < length plan.plays → has_by kind.Arrive (e ∷ past) (play_at plan n) t ≡ has_by kind.Arrive past (play_at plan n) t)
      → IsTurn plan past t turn → IsTurn plan (e ∷ past) t turn
  turn_stays t turn same s = record {
    before = λ n l m role. same n m ∙ s.before n l m role;
    after = λ n l m. same n m ∙ s.after n l m;
    own = s.own;
  }

  -- where a play is opened, it is the next of its maker
  pub opened_next : opens_play plan e ≡ true → (turn : ℕ) → IsTurn plan past e.by turn
      → (turn < length plan.plays) × (play_at plan turn ≡ e.place)
  opened_next opens turn s =
      let parts = and_parts (is_of kind.Arrive e) (is_none (parent plan e.place)) opens in
      by_kind e.kind e may parts.0 parts.1 s
    where
      by_kind : (k : Kind) (f : Entry) → Row k plan past (of_kind k f) → is_of kind.Arrive (of_kind k f) ≡ true
          → is_none (parent plan f.place) ≡ true → IsTurn plan past f.by turn
          → (turn < length plan.plays) × (play_at plan turn ≡ f.place)
      by_kind kind.Arrive f h w top s =
          got_below plan.plays turn f.place
          (sym (turn_next plan past f.by turn s) ∙ begins_play plan past (of_kind kind.Arrive f) h (by_place (inside plan past f.by) refl))
        where
          by_place : (o : Option ℕ) → inside plan past f.by ≡ o → inside plan past f.by ≡ None
          by_place None v = v
          by_place (Some q) v =
              let round : around plan f.place ≡ q ∷ around plan q =
              (arrives_in plan playable.tree past (of_kind kind.Arrive f) q h v).0 in
              absurd (false≢true (sym (ap (λ (qs : List ℕ). is_none (first_of qs)) round) ∙ top))
      by_kind _ f h w top s = absurd (false≢true w)

  turn_goes_on : opens_play plan e ≡ true → (turn new : ℕ) → IsTurn plan past e.by turn → IsNext plan e.by (suc turn) new
      → IsTurn plan (e ∷ past) e.by new
  turn_goes_on opens turn new s next =
      let there = opened_next opens turn s in
      let arrives : is_of kind.Arrive e ≡ true = (and_parts (is_of kind.Arrive e) _ opens).0 in
      record {
        before = λ n l m role. elim (cases_lt n turn) [
          | inl low ↦ or_right _ _ (s.before n low m role)
          | inr high ↦ elim (cases_lt turn n) [
            | inl above ↦ absurd (false≢true (sym (next.foreign n (omega (arith, above)) l m) ∙ role))
            | inr equal ↦
                let same : turn ≡ n = omega (arith, high, equal) in
                let here : e.place ≡ play_at plan n = sym there.1 ∙ ap (play_at plan) same in
                let made : is_by kind.Arrive (play_at plan n) e.by e ≡ true =
                and_from _ _ (and_from _ _ arrives (eq-eqb e.place (play_at plan n) here)) (eq-eqb e.by e.by refl) in
                or_left _ _ made
          ]
        ];
        after = λ n l m.
            let past_it : turn < n = let low = next.from_low in omega (arith, l, low) in
            let greater = rises_at 0 plan.plays turn n playable.rise past_it m in
            let other : (e.place == play_at plan n) ≡ false = false_from_ne_true _ (λ w.
            let same : play_at plan turn ≡ play_at plan n = there.1 ∙ eqb-true e.place (play_at plan n) w in
            omega (arith, greater, same)) in
            rw (other, both_false (is_of kind.Arrive e)) (s.after n (omega (arith, past_it)) m);
        own = next.own;
      }
    where
      both_false : (b : Bool) → (b && false) ≡ false
      both_false true = refl
      both_false false = refl

-- ---- puts that were refused in a handler

-- who goes out of a place has begun no handler in the place round it
outside_unhandled : (plan : Plan) → IsPlayable plan → (past : List Entry) → LegalPast plan past → (t q p : ℕ)
    → inside plan past t ≡ Some q → parent plan q ≡ Some p → has_handled past p t ≡ false
outside_unhandled plan playable past legal t q p here into =
    ((raises plan playable.tree past legal).away p t q here (parent_round plan playable.tree q p into)).1

own_out : (b : Bool) (x y : Option ℕ) (p : ℕ) → b ≡ true → cond b x y ≡ Some p → x ≡ Some p
own_out true x y p h w = w
own_out false x y p h w = absurd (false≢true h)

refused_own : (plan : Plan) → IsPlayable plan → (past : List Entry) (k : Kind) (e : Entry) → LegalPast plan past
    → Row k plan past (of_kind k e) → (was : Bool)
    → ((p : ℕ) → inside plan past e.by ≡ Some p → has_handled past p e.by ≡ true → was ≡ was_refused_in_handler past p e.by)
    → (p : ℕ) → inside plan (of_kind k e ∷ past) e.by ≡ Some p → has_handled (of_kind k e ∷ past) p e.by ≡ true
    → refused_after (of_kind k e) was ≡ was_refused_in_handler (of_kind k e ∷ past) p e.by
refused_own plan playable past kind.Arrive e legal h was right p here handled =
    let to : Some e.place ≡ Some p = own_out (e.by == e.by) (Some e.place) _ p (eq-eqb e.by e.by refl) here in
    let same : e.place ≡ p = cc in
    let none = (blank plan playable.tree past legal e.place e.by (fresh plan past (of_kind kind.Arrive e) h)).unhandled in
    absurd (both_ways _ none (subst (λ q. has_handled past q e.by ≡ true) (sym same) handled))
refused_own plan playable past kind.Withdraw e legal h was right p here handled =
    let into = own_out (e.by == e.by) (parent plan e.place) _ p (eq-eqb e.by e.by refl) here in
    absurd (both_ways _ (outside_unhandled plan playable past legal e.by e.place p h.here into) handled)
refused_own plan playable past kind.Leave e legal h was right p here handled =
    let into = own_out (e.by == e.by) (parent plan e.place) _ p (eq-eqb e.by e.by refl) here in
    absurd (both_ways _ (outside_unhandled plan playable past legal e.by e.place p h.here into) handled)
refused_own plan playable past kind.Handle e legal h was right p here handled =
    let both : Some e.place ≡ Some p = sym h.here ∙ here in
    let same : e.place ≡ p = cc in
    rw (eq-eqb e.place p same, eq-eqb e.by e.by refl) refl
refused_own plan playable past kind.PutFault e legal h was right p here handled =
    let both : Some e.place ≡ Some p = sym h.here ∙ here in
    let same : e.place ≡ p = cc in
    rw (eq-eqb e.place p same, eq-eqb e.by e.by refl) (sym handled)
refused_own plan playable past _ e legal h was right p here handled = right p here handled

-- ---- an entry of another

inside_other : (plan : Plan) (k : Kind) (p : ℕ) (own : Bool) (was : Option ℕ) → own ≡ false → inside_after plan k p own was ≡ was
inside_other plan kind.Arrive p own was h = rw h refl
inside_other plan kind.Withdraw p own was h = rw h refl
inside_other plan kind.Leave p own was h = rw h refl
inside_other plan _ p own was h = refl

refused_other : (past : List Entry) (e : Entry) (p t : ℕ) → (e.by == t) ≡ false
    → was_refused_in_handler (e ∷ past) p t ≡ was_refused_in_handler past p t
refused_other past e p t other = rw other (by_tests (is_in kind.Handle p e) (is_in kind.PutFault p e))
  where
    by_tests : (b c : Bool)
        → cond (b && false) false (cond (c && false) (has_by kind.Handle past p t) (was_refused_in_handler past p t)) ≡
        was_refused_in_handler past p t
    by_tests true true = refl
    by_tests true false = refl
    by_tests false true = refl
    by_tests false false = refl

-- ---- all of them

pub person_keeps : (plan : Plan) → IsPlayable plan → (past : List Entry) (e : Entry) (old : List Person) (new : Person)
    → LegalPast plan past → MayFollow plan past e
    → e.by < length old
    → (opens_play plan e ≡ true → IsNext plan e.by (suc (at old e.by).turn) new.turn) →
    (opens_play plan e ≡ false → new.turn ≡ (at old e.by).turn)
    → new.refused ≡ refused_after e (at old e.by).refused
    → PersonOfEach plan past old → PersonOfEach plan (e ∷ past) (slice_set old e.by new)
person_keeps plan playable past e old new legal may known goes stays refused s = record {
  as_many = length-set old e.by new ∙ s.as_many;
  each = λ t l. elim (cases_Bool (e.by == t)) [
    | inl same ↦ subst (λ u. IsPersonOf plan (e ∷ past) u (at (slice_set old e.by new) u)) (eqb-true e.by t same) own
    | inr other ↦
        let kept : at (slice_set old e.by new) t ≡ at old t =
        get_or-set_other old e.by t new nobody (λ w. both_ways _ other (eq-eqb e.by t (sym w))) in
        subst (IsPersonOf plan (e ∷ past) t) (sym kept) (foreign t other (s.each t l))
  ];
}
  where
    mine : IsPersonOf plan past e.by (at old e.by)
    mine = s.each e.by (subst (λ n. e.by < n) s.as_many known)

    turn : IsTurn plan (e ∷ past) e.by new.turn
    turn = elim (cases_Bool (opens_play plan e)) [
      | inl opens ↦ turn_goes_on plan playable past e legal may opens (at old e.by).turn new.turn mine.turn (goes opens)
      | inr shut ↦
          subst (IsTurn plan (e ∷ past) e.by) (sym (stays shut))
          (turn_stays plan playable past e legal may e.by (at old e.by).turn
          (λ n l. left_or (is_in kind.Arrive (play_at plan n) e) (e.by == e.by) _ (no_opening plan playable past e legal may shut n l))
          mine.turn)
    ]

    own : IsPersonOf plan (e ∷ past) e.by (at (slice_set old e.by new) e.by)
    own = subst (IsPersonOf plan (e ∷ past) e.by) (sym (get_or-set_same old e.by new nobody known)) (record {
      turn = turn;
      refused =
          λ p here handled. refused
          ∙ refused_own plan playable past e.kind e legal may (at old e.by).refused mine.refused p here handled;
    })

    foreign : (t : ℕ) → (e.by == t) ≡ false → IsPersonOf plan past t (at old t) → IsPersonOf plan (e ∷ past) t (at old t)
    foreign t other was = record {
      turn =
          turn_stays plan playable past e legal may t (at old t).turn
          (λ n l. kept_or (is_in kind.Arrive (play_at plan n) e) (e.by == t) _ other) was.turn;
      refused = λ p here handled.
          was.refused p (sym (inside_other plan e.kind e.place (e.by == t) (inside plan past t) other) ∙ here)
          (sym (kept_or (is_in kind.Handle p e) (e.by == t) (has_handled past p t) other) ∙ handled)
          ∙ sym (refused_other past e p t other);
    }

-- ---- at first

pub person_opened : (plan : Plan) (t turn : ℕ) → IsNext plan t 0 turn
    → IsPersonOf plan [] t (record { turn = turn; refused = false })
person_opened plan t turn next = record {
  turn = record {
    before = λ n l m role. absurd (false≢true (sym (next.foreign n (omega arith) l m) ∙ role));
    after = λ n l m. refl;
    own = next.own;
  };
  refused = λ p here handled. absurd (false≢true handled);
}

pub people_opened : (plan : Plan) (items : List Person) (n : ℕ) (person : Person) → length items ≡ n
    → ((t : ℕ) → t < n → IsPersonOf plan [] t (at items t)) → IsPersonOf plan [] n person
    → (t : ℕ) → t < n + 1 → IsPersonOf plan [] t (at (items ++ person ∷ []) t)
people_opened plan items n person long each new t l = elim (cases_lt t n) [
  | inl low ↦
      let below : t < length items = omega (arith, low, long) in
      subst (IsPersonOf plan [] t) (sym (get_or-append items (person ∷ []) nobody t below)) (each t low)
  | inr high ↦
      let last : length items ≡ t = omega (arith, l, long, high) in
      subst (λ u. IsPersonOf plan [] u (at (items ++ person ∷ []) u)) last
      (subst (IsPersonOf plan [] (length items)) (sym (get_or-append_seam items person [] nobody))
      (subst (λ u. IsPersonOf plan [] u person) (sym long) new))
]
