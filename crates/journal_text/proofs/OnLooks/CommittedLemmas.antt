-- Lemmas on the way back over a journal that finds the values of one object by the plays that ended first.
use Rattle.std.proofs.Common.{◌≡◌, ℕ, ℤ, pos, ◌<◌, ◌≤◌, ◌+◌, ◌-◌, ◌==◌, Bool, true, false, cond, not, ◌&&◌, ◌||◌, List, [], ◌∷◌, length, filter, take, drop, reverse, slice_index_or, get_or, add-one, nat_lt, nat_eq, zero, suc, refl, sym, ap, ◌∙◌, subst, inl, inr, ◌⊎◌, arith}
use Rattle.std.specs.HashSet.{HashSet, contains}
use Rattle.std.proofs.lemmas.Bool.{cond-false, cond-true, or_cases, and_left, and_right, and_from, not_from_false, not_from_true, eqb-true, false≢true, false_from_ne_true, cases_lt, lt-ltb, le-ltb}
use Rattle.std.specs.Ordering.{int_eq}
use Rattle.std.proofs.lemmas.List.{take_more, take_all, reverse-append}
use Rattle.std.proofs.Math.Seq.{drop-cons}
use Rattle.caa_base.specs.declared.written.entry.Entry.{Entry}
use Rattle.place_plan.specs.Plans.PlanValue.{Plan}
use Rattle.caa_base.specs.Written.Lists.{member, index_of, last_or}
use Rattle.place_plan.specs.Plans.Places.{around, top_of, is_within}
use Rattle.place_plan.specs.RulesOfJournals.Objects.{restores, writes, is_within_any, value_of, value_outside, places_restoring}
use Rattle.place_plan.specs.RulesOfJournals.Journals.{plays_ended, committed_value}
use Rattle.caa_base.proofs.ListLemmas.{one_more_each}
use Rattle.journal_text.specs.declared.looks.seens.Seen.{Seen}
use Rattle.journal_text.specs.Texts.Text.{watched_object}
use Rattle.journal_text.specs.Watching.Right.{is_committed}
use Rattle.journal_text.specs.inner.CommittedValues.{is_of_first, value_by_first, value_left_by_first, counts, Notes, lowest_after, value_after, TellsRestored, KnowsAbove, HasCommitted, value_by, HasWatched}
use Rattle.journal_text.proofs.OnTexts.ValueLemmas.{within_any, any-same}

-- ---- plays that are among the first

-- a play is among the first n just where its place among all is below n
member_take : (q n : ℕ) (ps : List ℕ) → n ≤ length ps → member q (take n ps) ≡ nat_lt (index_of q ps) n
member_take q zero ps l = sym (le-ltb (index_of q ps) 0 (omega arith))
member_take q (suc n) [] l = absurd (omega arith)
member_take q (suc n) (p ∷ ps) l = by (p == q) (member_take q n ps (omega arith))
  where
    by : (b : Bool) → member q (take n ps) ≡ nat_lt (index_of q ps) n
        → (b || member q (take n ps)) ≡ nat_lt (cond b 0 (suc (index_of q ps))) (suc n)
    by true h = sym (lt-ltb 0 (suc n) (omega arith))
    by false h = h ∙ sym (one_more_each (index_of q ps) n)

module _ (plan : Plan) where
  -- ---- one entry less to look at

  -- an entry that gives no value leaves it to those before it
  step_left : (keep : Entry → Bool) (past later : List Entry) (e : Entry) (o : ℕ)
      → (keep e ≡ true → (writes o e && not (is_within_any plan e.place (places_restoring o (filter keep later)))) ≡ false)
      → value_outside plan (filter keep (e ∷ past)) o (places_restoring o (filter keep later))
      ≡ value_outside plan (filter keep past) o (places_restoring o (filter keep (e ∷ later)))
  step_left keep past later e o h = by (keep e) refl
    where
      by : (b : Bool) → keep e ≡ b
          → value_outside plan (filter keep (e ∷ past)) o (places_restoring o (filter keep later))
          ≡ value_outside plan (filter keep past) o (places_restoring o (filter keep (e ∷ later)))
      by true x = rw x (cond-false _ _ _ (h x))
      by false x = rw x refl

  -- one that gives a value gives its own
  step_found : (keep : Entry → Bool) (past later : List Entry) (e : Entry) (o : ℕ)
      → keep e ≡ true → (writes o e && not (is_within_any plan e.place (places_restoring o (filter keep later)))) ≡ true
      → value_outside plan (filter keep (e ∷ past)) o (places_restoring o (filter keep later)) ≡ e.value
  step_found keep past later e o x h = rw x (cond-true _ _ _ h)

  -- the set tells whether a write counts
  counts-is : {S : Type 0} (restored : HashSet ℕ S) (o : ℕ) (later : List Entry) (e : Entry) → TellsRestored restored o later
      → counts plan restored o e ≡ (writes o e && not (is_within_any plan e.place (places_restoring o later)))
  counts-is restored o later e h =
      ap (λ b. writes o e && not b)
      (rw (
        h e.place,
        any-same (contains nat_eq restored) (λ a. member a (places_restoring o later))
            (around plan e.place) h,
      ) (sym (within_any plan e.place (places_restoring o later))))

  -- what is noted of an entry
  pub noted : {S : Type 0} (old new : HashSet ℕ S) (o : ℕ) (later : List Entry) (e : Entry) → TellsRestored old o later
      → Notes o e old new → TellsRestored new o (e ∷ later)
  noted old new o later e h says p = says p ∙ ap (λ b. (restores o e && (e.place == p)) || b) (h p) ∙ by (restores o e)
    where
      by : (r : Bool) → ((r && (e.place == p)) || member p (places_restoring o later))
          ≡ member p (cond r (e.place ∷ places_restoring o later) (places_restoring o later))
      by true = refl
      by false = refl

  module _ (chain : (p q : ℕ) (qs : List ℕ) → around plan p ≡ q ∷ qs → around plan q ≡ qs) where
    -- ---- places of one play

    top_outwards : (p q : ℕ) (qs : List ℕ) → around plan p ≡ qs → member q qs ≡ true → top_of plan q ≡ last_or p qs
    top_outwards p q [] a m = absurd (false≢true m)
    top_outwards p q (x ∷ xs) a m =
        elim (or_cases (x == q) (member q xs) m) [
          | inl e ↦ subst (λ y. top_of plan y ≡ last_or x xs) (eqb-true x q e) (ap (last_or x) (chain p x xs a))
          | inr r ↦ top_outwards x q xs (chain p x xs a) r
        ]

    -- a place and those round it are of one play
    same_top : (p q : ℕ) → is_within plan p q ≡ true → top_of plan q ≡ top_of plan p
    same_top p q w =
        elim (or_cases (p == q) (member q (around plan p)) w) [
          | inl e ↦ ap (top_of plan) (sym (eqb-true p q e))
          | inr m ↦ top_outwards p q (around plan p) refl m
        ]

    -- whether a write is undone is told by the entries of its own play
    pub within_kept : (ended : List ℕ) (n o : ℕ) (e : Entry) (later : List Entry) → is_of_first plan ended n e ≡ true
        → is_within_any plan e.place (places_restoring o (filter (is_of_first plan ended n) later))
        ≡ is_within_any plan e.place (places_restoring o later)
    within_kept ended n o e [] kept = refl
    within_kept ended n o e (f ∷ later) kept = by (is_of_first plan ended n f) (restores o f) refl refl (within_kept ended n o e later kept)
      where
        apart : is_of_first plan ended n f ≡ false → is_within plan e.place f.place ≡ false
        apart x =
            false_from_ne_true _ (λ w. false≢true
            (sym x ∙ subst (λ q. member q (take n ended) ≡ true) (sym (same_top e.place f.place w)) kept))

        by : (k r : Bool) → is_of_first plan ended n f ≡ k → restores o f ≡ r
            → is_within_any plan e.place (places_restoring o (filter (is_of_first plan ended n) later))
            ≡ is_within_any plan e.place (places_restoring o later)
            → is_within_any plan e.place (places_restoring o (filter (is_of_first plan ended n) (f ∷ later)))
            ≡ is_within_any plan e.place (places_restoring o (f ∷ later))
        by true true x y ih = rw (x, y) (ap (λ b. is_within plan e.place f.place || b) ih)
        by true false x y ih = rw (x, y) ih
        by false true x y ih = rw (x, y, apart x) ih
        by false false x y ih = rw (x, y) ih

    -- ---- one step back

    module _ (ended : List ℕ) (o : ℕ) (old new : List ℤ) (lowest : ℕ) (all past later : List Entry) (e : Entry)
        (size : length new ≡ length old) (h : KnowsAbove plan ended o old lowest all (e ∷ past) later) where
      abbrev pub rank : ℕ
      rank = index_of (top_of plan e.place) ended

      kept_is : (n : ℕ) → n ≤ length ended → is_of_first plan ended n e ≡ nat_lt rank n
      kept_is n l = member_take (top_of plan e.place) n ended l

      passed : (n : ℕ) → n ≤ lowest
          → (is_of_first plan ended n e ≡ true
          → (writes o e && not (is_within_any plan e.place (places_restoring o later))) ≡ false)
          → value_by_first plan ended all n o ≡ value_left_by_first plan ended past (e ∷ later) n o
      passed n l none =
          h.left n l ∙ step_left (is_of_first plan ended n) past later e o
          (λ kept. ap (λ b. writes o e && not b) (within_kept ended n o e later kept) ∙ none kept)

      untaken : (writes o e && not (is_within_any plan e.place (places_restoring o later))) ≡ false
          → ((n : ℕ) → slice_index_or new n (pos 0) ≡ slice_index_or old n (pos 0))
          → KnowsAbove plan ended o new lowest all past (e ∷ later)
      untaken none same = record {
        size = size ∙ h.size;
        low = h.low;
        initial = λ n l. same n ∙ h.initial n l;
        left = λ n l. passed n l (λ kept. none);
        known = λ n l m. same n ∙ h.known n l m;
      }

      -- of a play whose values are known
      late : lowest ≤ rank → ((n : ℕ) → slice_index_or new n (pos 0) ≡ slice_index_or old n (pos 0))
          → KnowsAbove plan ended o new lowest all past (e ∷ later)
      late r same = record {
        size = size ∙ h.size;
        low = h.low;
        initial = λ n l. same n ∙ h.initial n l;
        left =
            λ n l. passed n l (λ kept. absurd
            (false≢true (sym (le-ltb rank n (omega arith)) ∙ sym (kept_is n (omega (arith, h.low))) ∙ kept)));
        known = λ n l m. same n ∙ h.known n l m;
      }

      taken : (writes o e && not (is_within_any plan e.place (places_restoring o later))) ≡ true → rank < lowest
          → ((n : ℕ) → slice_index_or new n (pos 0)
          ≡ cond (nat_lt rank n && not (nat_lt lowest n)) e.value (slice_index_or old n (pos 0)))
          → KnowsAbove plan ended o new rank all past (e ∷ later)
      taken counted r says = record {
        size = size ∙ h.size;
        low = omega (arith, h.low);
        initial = λ n l. says n ∙ cond-false _ _ _ (and_left _ _ (le-ltb rank n l)) ∙ h.initial n (omega arith);
        left =
            λ n l. passed n (omega arith)
            (λ kept. absurd (false≢true (sym (le-ltb rank n l) ∙ sym (kept_is n (omega (arith, h.low))) ∙ kept)));
        known = λ n l m. elim (cases_lt lowest n) [
          | inl above ↦ says n ∙ cond-false _ _ _ (and_right _ _ (not_from_true _ (lt-ltb lowest n above))) ∙ h.known n above m
          | inr below ↦
              let kept = kept_is n m ∙ lt-ltb rank n l in
              says n ∙ cond-true _ _ _ (and_from _ _ (lt-ltb rank n l) (not_from_false _ (le-ltb lowest n below)))
              ∙ sym (h.left n below ∙ step_found (is_of_first plan ended n) past later e o kept
              (ap (λ b. writes o e && not b) (within_kept ended n o e later kept) ∙ counted))
        ];
      }

      pub step_back : {S : Type 0} (restored : HashSet ℕ S) → TellsRestored restored o later
          → ((n : ℕ) → slice_index_or new n (pos 0) ≡ value_after (counts plan restored o e) rank lowest e n (slice_index_or old n (pos 0)))
          → KnowsAbove plan ended o new (lowest_after (counts plan restored o e) rank lowest) all past (e ∷ later)
      step_back restored tells says = by (counts plan restored o e) refl (cases_lt rank lowest)
        where
          none : (n : ℕ) → lowest ≤ rank → (nat_lt rank n && not (nat_lt lowest n)) ≡ false
          none n r = elim (cases_lt rank n) [
            | inl l ↦ and_right _ _ (not_from_true _ (lt-ltb lowest n (omega arith)))
            | inr l ↦ and_left _ _ (le-ltb rank n l)
          ]

          by : (b : Bool) → counts plan restored o e ≡ b → (rank < lowest) ⊎ (lowest ≤ rank)
              → KnowsAbove plan ended o new (lowest_after (counts plan restored o e) rank lowest) all past (e ∷ later)
          by false x c = rw x (untaken (sym (counts-is restored o later e tells) ∙ x) (λ n. says n ∙ (rw x refl)))
          by true x (inl r) =
              rw (x, lt-ltb rank lowest r)
              (taken (sym (counts-is restored o later e tells) ∙ x) r (λ n. says n ∙ (rw x refl)))
          by true x (inr r) = rw (x, le-ltb rank lowest r) (late r (λ n. says n ∙ (rw x (cond-false _ _ _ (none n r)))))

-- one step back over the entries of a journal
pub know-next : (plan : Plan) → ((p q : ℕ) (qs : List ℕ) → around plan p ≡ q ∷ qs → around plan q ≡ qs)
    → (ended : List ℕ) (o : ℕ) (old new : List ℤ) (lowest : ℕ) (entries : List Entry) (i j : ℕ) (d : Entry) → i + 1 ≡ j → i < length entries
    → length new ≡ length old → KnowsAbove plan ended o old lowest (reverse entries) (reverse (take j entries)) (drop j entries)
    → {S : Type 0} (restored noted : HashSet ℕ S) → TellsRestored restored o (drop j entries)
    → let e = get_or entries i d in
    let counted = counts plan restored o e in
    let rank = index_of (top_of plan e.place) ended in
    ((n : ℕ) → slice_index_or new n (pos 0) ≡ value_after counted rank lowest e n (slice_index_or old n (pos 0))) → Notes o e restored noted
    → KnowsAbove plan ended o new (lowest_after counted rank lowest) (reverse entries) (reverse (take i entries))
    (drop i entries) × TellsRestored noted o (drop i entries)
know-next plan chain ended o old new lowest entries i j d next within size h restored more tells says notes =
    let e = get_or entries i d in
    let front : reverse (take j entries) ≡ e ∷ reverse (take i entries) =
    rw (← next, take_more entries i d within) (reverse-append (take i entries) (e ∷ [])) in
    let back : drop i entries ≡ e ∷ drop j entries = rw (← next, add-one) (drop-cons entries i d within) in
    let before : KnowsAbove plan ended o old lowest (reverse entries) (e ∷ reverse (take i entries)) (drop j entries) = rw (← front) h in
    rw back (
      step_back plan chain ended o old new lowest (reverse entries) (reverse (take i entries))
          (drop j entries) e size before restored tells says,
      noted plan restored more o (drop j entries) e tells notes,
    )

-- ---- the way from end to end

-- ---- looks

-- the value by any number of plays
pub value_by_is : (plan : Plan) (past : List Entry) (o n : ℕ) (values : List ℤ)
    → HasCommitted plan (plays_ended plan past) past o values → value_by values n ≡ committed_value plan past n o
value_by_is plan past o n values h = elim (cases_lt n (length values - 1)) [
  | inl l ↦ rw (lt-ltb n (length values - 1) l) (h.each n (omega (arith, h.size)))
  | inr l ↦
      let ended = plays_ended plan past in
      let all : length values - 1 ≡ length ended = omega (arith, h.size) in
      let same : take n ended ≡ take (length ended) ended =
      take_all n ended (omega (arith, all)) ∙ sym (take_all (length ended) ended (omega arith)) in
      rw (le-ltb n (length values - 1) l, all)
      (h.each (length ended) (omega arith)
      ∙ ap (λ ps. value_of plan (filter (λ e. member (top_of plan e.place) ps) past) o) (sym same))
]

-- a look is right by the table of its watch
pub committed_is : (plan : Plan) (past : List Entry) (tables : List (List ℤ)) (s : Seen)
    → HasWatched plan (plays_ended plan past) past tables (length plan.watches) → s.watch < length plan.watches
    → int_eq s.value (value_by (slice_index_or tables s.watch []) s.ends) ≡ is_committed plan past s
committed_is plan past tables s h l =
    ap (int_eq s.value) (value_by_is plan past (watched_object plan s.watch) s.ends (slice_index_or tables s.watch [])
    (h.each s.watch l))
