-- The stretches of a part of a journal, from its first moment up to the last that the rules let come.
use Rattle.std.proofs.Common.{◌≡◌, ◌∙◌, ℕ, suc, ◌+◌, ◌<◌, ◌≤◌, Bool, true, false, not, cond, eqb, ltb, leb, ◌&&◌, List, [], ◌∷◌, ◌++◌, length, reverse, take, slice_get, Option, Some, None, is_none, get_or, filter, refl, sym, ap, subst, arith, inl, inr}
use Rattle.std.specs.Prelude.{zero}
use Rattle.std.specs.List.{All, count_by}
use Rattle.std.proofs.lemmas.Bool.{cases_lt, eqb-true, ltb-true, leb-true, lt-ltb, le-ltb, le-leb, lt-leb, cases_order, eq-eqb, ne_eqb, and_parts, cases_Bool, false≢true}
use Rattle.std.proofs.lemmas.List.{take_more, reverse-append}
use Rattle.std.proofs.lemmas.List.Elements.{All-weaker, All-head, All-nil, All-tail, All-append}
use Rattle.std.proofs.lemmas.List.Sums.{sum_by-append, sum_by-cons}
use Rattle.std.proofs.lemmas.Option.{slice_get_cases}
use Rattle.caa_base.specs.declared.written.entry.Entry.{Entry}
use Rattle.place_plan.specs.Plans.PlanValue.{Plan}
use Rattle.place_plan.specs.RulesOfJournals.Journals.{LegalPast}
use Rattle.place_plan.specs.RulesOfJournals.Rules.{MayFollow}
use Rattle.place_plan.specs.RulesOfJournals.Whereabouts.{inside}
use Rattle.journal_replay.proofs.Prefixes.{legal_front}
use Rattle.journal_states.specs.declared.states.States.{States}
use Rattle.journal_states.specs.Past.{plan_in, journal_in, taken_in, IsAtEnd}
use Rattle.journal_pictures.specs.declared.stretches.Stretch.{Stretch}
use Rattle.journal_pictures.specs.Stretches.{past_at, is_away, has_moment, number_due, IsShown, IsRight, CoverAll}
use Rattle.journal_pictures.specs.inner.Lanes.{LiesIn, AreOne, one_if}
use Rattle.journal_pictures.proofs.LaneLemmas.{all_further}

-- behind so many entries none may come
abbrev pub EndsAt : Plan → List Entry → ℕ → Type 0
EndsAt plan entries last = (e : Entry) → slice_get entries last ≡ Some e → MayFollow plan (past_at entries last) e → ⊥

-- where a cursor is at its end
pub ends_there : (s : States) (plan : Plan) (entries : List Entry) (n : ℕ) → plan_in s ≡ plan → journal_in s ≡ entries → taken_in s ≡ n
    → IsAtEnd s → EndsAt plan entries n
ends_there s plan entries n of over taken ends =
    subst (λ (m : ℕ). EndsAt plan entries m) taken
    (subst (λ (j : List Entry). EndsAt plan j (taken_in s)) over
    (subst (λ (p : Plan). EndsAt p (journal_in s) (taken_in s)) of ends))

-- the fronts of a legal journal are legal
front_legal : (plan : Plan) (entries : List Entry) (k last : ℕ) → k ≤ last → LegalPast plan (past_at entries last)
    → LegalPast plan (past_at entries k)
front_legal plan entries k last low legal =
    subst (λ (es : List Entry). LegalPast plan (reverse es)) (shorter k last entries low)
    (legal_front plan (take last entries) k legal)
  where
    shorter : (k last : ℕ) (entries : List Entry) → k ≤ last → take k (take last entries) ≡ take k entries
    shorter zero last entries low = refl
    shorter (suc k) zero entries low = absurd (omega (arith, low))
    shorter (suc k) (suc last) [] low = refl
    shorter (suc k) (suc last) (e ∷ entries) low = ap (λ (es : List Entry). e ∷ es) (shorter k last entries (omega (arith, low)))

-- the entries up to one more, the newest first
front_more : (entries : List Entry) (i : ℕ) (e : Entry) → i < length entries → get_or entries i e ≡ e
    → past_at entries (i + 1) ≡ e ∷ past_at entries i
front_more entries i e low got =
    ap reverse (take_more entries i e low) ∙ reverse-append (take i entries) (get_or entries i e ∷ [])
    ∙ ap (λ (x : Entry). x ∷ past_at entries i) got

-- so no moment behind such an entry is shown
pub not_behind : (plan : Plan) (entries : List Entry) (first rows last k : ℕ) → EndsAt plan entries last → last < k
    → IsShown plan entries first rows k → ⊥
not_behind plan entries first rows last k ends behind shown =
    elim (slice_get_cases entries last).1 [
      | inl (e, low, found, got) ↦
          ends e found
          (subst (LegalPast plan) (front_more entries last e low got)
          (front_legal plan entries (last + 1) k (omega (arith, behind)) shown.legal)).1
      | inr (past, none) ↦ absurd (omega (arith, past, behind, shown.within))
    ]

-- what lies between two moments that are shown is right
pub lying_right : (plan : Plan) (entries : List Entry) (first rows last : ℕ) (ss : List Stretch) → last ≤ first + rows
    → last ≤ length entries → LegalPast plan (past_at entries last) → All (LiesIn plan entries first (last + 1)) ss
    → All (IsRight plan entries first rows) ss
lying_right plan entries first rows last ss high within legal all =
    All-weaker (LiesIn plan entries first (last + 1)) (IsRight plan entries first rows)
    (λ s lies. record {
      known = lies.known;
      lasts = lies.lasts;
      shown = λ k above below. record {
        low = omega (arith, lies.low, above);
        high = omega (arith, lies.high, below, high);
        within = omega (arith, lies.high, below, within);
        legal = front_legal plan entries k last (omega (arith, lies.high, below)) legal;
      };
      right = lies.right;
    }) ss all

-- one more moment
pub moment_more : (first m k : ℕ) → first ≤ m
    → one_if (leb first k && ltb k (m + 1)) ≡ one_if (leb first k && ltb k m) + one_if (eqb m k)
moment_more first m k low = elim (cases_order k m) as (λ _. one_if (leb first k && ltb k (m + 1)) ≡ one_if (leb first k && ltb k m) + one_if (eqb m k)) [
  | inl same ↦
      rw (
        le-leb first k (omega (arith, low, same)),
        lt-ltb k (m + 1) (omega (arith, same)),
        le-ltb k m (omega (arith, same)),
        eq-eqb m k (sym same),
      ) refl
  | inr (inl below) ↦
      rw (lt-ltb k (m + 1) (omega (arith, below)), lt-ltb k m below, ne_eqb m k (λ e. omega (arith, e, below))) (omega arith)
  | inr (inr above) ↦
      rw (le-ltb k (m + 1) (omega (arith, above)), le-ltb k m (omega (arith, above)), ne_eqb m k (λ e. omega (arith, e, above))) (omega arith)
]

-- at a moment between the first and the last there is one
pub moment_within : (first last k : ℕ) → first ≤ k → k ≤ last → one_if (leb first k && ltb k (last + 1)) ≡ 1
moment_within first last k low high = rw (le-leb first k low, lt-ltb k (last + 1) (omega (arith, high))) refl

-- ---- those of somebody who is in a place

-- with the stretches of those alone who are in a place, those who are in one have one, and the others none
pub here_cover : (plan : Plan) (entries : List Entry) (first rows : ℕ) (ss : List Stretch) → All (IsRight plan entries first rows) ss
    → AreOne plan entries first rows ss → CoverAll plan entries first rows (filter (λ s. not (is_away s.doing)) ss)
here_cover plan entries first rows ss right one t k known shown =
    by_place (inside plan (past_at entries k) t) refl
  where
    -- what a stretch with this moment does
    away : (s : Stretch) → IsRight plan entries first rows s → has_moment t k s ≡ true
        → is_away s.doing ≡ is_none (inside plan (past_at entries k) t)
    away s r has =
        let own = and_parts (eqb s.lane t) (leb s.from k && ltb k s.to) has in
        let when = and_parts (leb s.from k) (ltb k s.to) own.1 in
        subst (λ (u : ℕ). is_away s.doing ≡ is_none (inside plan (past_at entries k) u)) (eqb-true s.lane t own.0)
        (r.right k (leb-true s.from k when.0) (ltb-true k s.to when.1)).away

    counted : (s : Stretch) (ss : List Stretch)
        → count_by (has_moment t k) (s ∷ ss) ≡ one_if (has_moment t k s) + count_by (has_moment t k) ss
    counted s ss = sum_by-cons (λ (x : Stretch). cond (has_moment t k x) 1 0) s ss

    none : (ss : List Stretch) → is_none (inside plan (past_at entries k) t) ≡ true → All (IsRight plan entries first rows) ss
        → count_by (has_moment t k) (filter (λ s. not (is_away s.doing)) ss) ≡ 0
    none [] out all = refl
    none (s ∷ ss) out all =
        let rest = none ss out (All-tail (IsRight plan entries first rows) s ss all) in
        let mine = away s (All-head (IsRight plan entries first rows) s ss all) in
        elim (cases_Bool (is_away s.doing)) [
          | inl is ↦ rw is rest
          | inr isnt ↦ rw isnt (counted s (filter (λ s. not (is_away s.doing)) ss)
              ∙ elim (cases_Bool (has_moment t k s)) [
                | inl has ↦ absurd (false≢true (sym isnt ∙ mine has ∙ out))
                | inr hasnt ↦ rw hasnt (omega (arith, rest))
              ])
        ]

    same : (ss : List Stretch) → is_none (inside plan (past_at entries k) t) ≡ false → All (IsRight plan entries first rows) ss
        → count_by (has_moment t k) (filter (λ s. not (is_away s.doing)) ss) ≡ count_by (has_moment t k) ss
    same [] out all = refl
    same (s ∷ ss) out all =
        let rest = same ss out (All-tail (IsRight plan entries first rows) s ss all) in
        let mine = away s (All-head (IsRight plan entries first rows) s ss all) in
        elim (cases_Bool (is_away s.doing)) [
          | inr isnt ↦ rw isnt (counted s (filter (λ s. not (is_away s.doing)) ss) ∙ ap (λ n. one_if (has_moment t k s) + n) rest ∙ sym (counted s ss))
          | inl is ↦ rw is (rest ∙ sym (counted s ss
              ∙ elim (cases_Bool (has_moment t k s)) [
                | inl has ↦ absurd (false≢true (sym (sym is ∙ mine has ∙ out)))
                | inr hasnt ↦ rw hasnt (omega arith)
              ]))
        ]

    by_place : (o : Option ℕ) → inside plan (past_at entries k) t ≡ o
        → count_by (has_moment t k) (filter (λ s. not (is_away s.doing)) ss) ≡ number_due o
    by_place None out = none ss (ap is_none out) right
    by_place (Some p) out = same ss (ap is_none out) right ∙ one t k known shown

-- ---- a part that is told of

-- what was found of the moments from the first on, up to that of a cursor
pub record IsFound (plan : Plan) (entries : List Entry) (first : ℕ) (s : States) (finished lasting : List Stretch) : Type 0 where
  pub of : plan_in s ≡ plan
  pub over : journal_in s ≡ entries
  pub low : first ≤ taken_in s
  pub done : All (LiesIn plan entries first (taken_in s + 1)) finished
  pub going : All (LiesIn plan entries first (taken_in s + 1)) lasting
  pub number : (t k : ℕ) → t < length plan.participants
      → count_by (has_moment t k) finished + count_by (has_moment t k) lasting ≡ one_if (leb first k && ltb k (taken_in s + 1))

-- all that was found is right
pub found_right : (plan : Plan) (entries : List Entry) (first rows : ℕ) (s : States) (done going : List Stretch)
    → IsFound plan entries first s done going → taken_in s ≤ first + rows → All (IsRight plan entries first rows) (done ++ going)
found_right plan entries first rows s done going is high =
    let within : taken_in s ≤ length entries = subst (λ (j : List Entry). taken_in s ≤ length j) is.over s.within in
    let legal : LegalPast plan (past_at entries (taken_in s)) =
    subst (λ (p : Plan). LegalPast p (past_at entries (taken_in s))) is.of
    (subst (λ (j : List Entry). LegalPast (plan_in s) (past_at j (taken_in s))) is.over s.legal) in
    All-append (IsRight plan entries first rows) done going
    (lying_right plan entries first rows (taken_in s) done high within legal is.done)
    (lying_right plan entries first rows (taken_in s) going high within legal is.going)

-- and at each moment that is shown each participant has one, where no moment behind the cursor is shown
pub found_one : (plan : Plan) (entries : List Entry) (first rows : ℕ) (s : States) (done going : List Stretch)
    → IsFound plan entries first s done going → ((k : ℕ) → IsShown plan entries first rows k → k ≤ taken_in s)
    → AreOne plan entries first rows (done ++ going)
found_one plan entries first rows s done going is last t k known shown =
    sum_by-append (λ (x : Stretch). cond (has_moment t k x) 1 0) done going ∙ is.number t k known
    ∙ moment_within first (taken_in s) k shown.low (last k shown)

-- no moment behind a cursor at its end is shown
pub shown_before : (plan : Plan) (entries : List Entry) (first rows : ℕ) (s : States) → plan_in s ≡ plan → journal_in s ≡ entries
    → IsAtEnd s → (k : ℕ) → IsShown plan entries first rows k → k ≤ taken_in s
shown_before plan entries first rows s of over ends k shown = elim (cases_lt (taken_in s) k) [
  | inl behind ↦
      absurd (not_behind plan entries first rows (taken_in s) k (ends_there s plan entries (taken_in s) of over refl ends) behind shown)
  | inr before ↦ before
]

-- what was found of the first moment
pub found_first : (plan : Plan) (entries : List Entry) (first : ℕ) (s : States) (going : List Stretch) → plan_in s ≡ plan
    → journal_in s ≡ entries → taken_in s ≡ first
    → All (LiesIn (plan_in s) (journal_in s) (taken_in s) (taken_in s + 1)) going
    → ((t k : ℕ) → t < length (plan_in s).participants → count_by (has_moment t k) going ≡ one_if (eqb (taken_in s) k))
    → IsFound plan entries first s [] going
found_first plan entries first s going of over at next number = record {
  of = of;
  over = over;
  low = omega (arith, at);
  done = All-nil (LiesIn plan entries first (taken_in s + 1));
  going =
      subst (λ (n : ℕ). All (LiesIn plan entries n (taken_in s + 1)) going) at
      (subst (λ (j : List Entry). All (LiesIn plan j (taken_in s) (taken_in s + 1)) going) over
      (subst (λ (p : Plan). All (LiesIn p (journal_in s) (taken_in s) (taken_in s + 1)) going) of next));
  number = λ t k known.
      omega (arith, number t k (subst (λ (p : Plan). t < length p.participants) (sym of) known), moment_first first (taken_in s) k at);
}
  where
    moment_first : (first m k : ℕ) → m ≡ first → one_if (leb first k && ltb k (m + 1)) ≡ one_if (eqb m k)
    moment_first first m k same = elim (cases_order k m) as (λ _. one_if (leb first k && ltb k (m + 1)) ≡ one_if (eqb m k)) [
      | inl is ↦
          rw (le-leb first k (omega (arith, is, same)), lt-ltb k (m + 1) (omega (arith, is)), eq-eqb m k (sym is)) refl
      | inr (inl below) ↦ rw (lt-leb first k (omega (arith, below, same)), ne_eqb m k (λ e. omega (arith, e, below))) refl
      | inr (inr above) ↦
          rw (le-leb first k (omega (arith, above, same)), le-ltb k (m + 1) (omega (arith, above)), ne_eqb m k (λ e. omega (arith, e, above))) refl
    ]

-- what is found with one moment more
pub found_next : (plan : Plan) (entries : List Entry) (first : ℕ) (old s : States) (done after going next : List Stretch)
    → IsFound plan entries first old done going → plan_in s ≡ plan_in old → journal_in s ≡ journal_in old
    → taken_in s ≡ taken_in old + 1
    → ((f : ℕ) → All (LiesIn (plan_in s) (journal_in s) f (taken_in s)) going
    → All (LiesIn (plan_in s) (journal_in s) f (taken_in s + 1)) next)
    → ((f : ℕ) → All (LiesIn (plan_in s) (journal_in s) f (taken_in s)) going
    → All (LiesIn (plan_in s) (journal_in s) f (taken_in s)) done → All (LiesIn (plan_in s) (journal_in s) f (taken_in s)) after)
    → ((t k : ℕ) → t < length (plan_in s).participants → count_by (has_moment t k) after + count_by (has_moment t k) next
    ≡ count_by (has_moment t k) done + count_by (has_moment t k) going + one_if (eqb (taken_in s) k))
    → IsFound plan entries first s after next
found_next plan entries first old s done after going next is of_old over_old more nexts dones numbers =
    let of = of_old ∙ is.of in
    let over = over_old ∙ is.over in
    let m = taken_in s in
    let there : (n : ℕ) (ss : List Stretch) → All (LiesIn (plan_in s) (journal_in s) first n) ss → All (LiesIn plan entries first n) ss =
    λ n ss all.
    subst (λ (j : List Entry). All (LiesIn plan j first n) ss) over
    (subst (λ (p : Plan). All (LiesIn p (journal_in s) first n) ss) of all) in
    let back : (ss : List Stretch) → All (LiesIn plan entries first (taken_in old + 1)) ss → All (LiesIn (plan_in s) (journal_in s) first m) ss =
    λ ss all.
    subst (λ (n : ℕ). All (LiesIn (plan_in s) (journal_in s) first n) ss) (sym more)
    (subst (λ (j : List Entry). All (LiesIn (plan_in s) j first (taken_in old + 1)) ss) (sym over)
    (subst (λ (p : Plan). All (LiesIn p entries first (taken_in old + 1)) ss) (sym of) all)) in
    record {
      of = of;
      over = over;
      low = omega (arith, is.low, more);
      done = all_further plan entries first m (m + 1) after (omega arith) (there m after (dones first (back going is.going) (back done is.done)));
      going = there (m + 1) next (nexts first (back going is.going));
      number = λ t k known.
          omega (
            arith,
            numbers t k (subst (λ (p : Plan). t < length p.participants) (sym of) known),
            is.number t k known,
            ap (λ (n : ℕ). one_if (leb first k && ltb k n)) more,
            moment_more first m k (omega (arith, is.low, more)),
          );
    }
