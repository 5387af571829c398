-- What a watcher recorded, as more is published, and once all is.
use Rattle.std.proofs.Common.{◌≡◌, ℕ, ℤ, ◌+◌, ◌*◌, ◌-◌, ◌<◌, ◌≤◌, nat_lt, nat_le, true, List, [], ◌∷◌, ◌++◌, length, map, take, get_or, All, zero, suc, refl, sym, ap, ◌∙◌, subst, arith, inl, inr}
use Rattle.std.specs.Prelude.{slice_index_or}
use Rattle.std.specs.List.{list_all}
use Rattle.std.specs.Ordering.{int_eq}
use Rattle.std.proofs.lemmas.Cmp.{int_eq_equiv}
use Rattle.std.proofs.lemmas.Bool.{and_parts, and_from, cases_Bool, cases_lt, ltb-true, leb-true}
use Rattle.std.proofs.Math.Nat.{suc-mul}
use Rattle.std.proofs.Math.ListN.{get_or-map as read_mapped}
use Rattle.std.proofs.lemmas.Bool.Decides.{nat_tests, Decides-int_eq}
use Rattle.std.proofs.lemmas.List.{take-append-le, length-map, get_or-map}
use Rattle.std.proofs.lemmas.List.Folds.{list_all-append}
use Rattle.std.proofs.lemmas.List.Elements.{All-nil, All-cons}
use Rattle.caa_base.specs.declared.written.entry.Entry.{Entry}
use Rattle.place_plan.specs.Plans.PlanValue.{Plan}
use Rattle.place_plan.specs.Drafts.DraftRules.{is_rising_above, all_below}
use Rattle.place_plan.specs.Plans.Places.{initials_of}
use Rattle.place_plan.specs.RulesOfJournals.Journals.{committed_value}
use Rattle.place_plan.proofs.OnDrafts.DraftKeeps.{few_objects}
use Rattle.journal_laws.specs.Laws.{CommitLaw}
use Rattle.shared_views.specs.Publications.{Known, Begins, value_after}
use Rattle.shared_views.specs.Committing.{Committed, Watching, IsReading, WasRead}
use Rattle.shared_views.specs.declared.observed.Reading.{Reading}
use Rattle.shared_views.proofs.Readings.{was_read as read_then, still_read}
use Rattle.action_manager.specs.Publishing.{publications_of}
use Rattle.action_manager.specs.PublishingLaw.{PublishingLaw}
use Rattle.role_driver.specs.inner.Records.{was_read, ends_rise, is_record, is_news}
use Rattle.role_driver.specs.declared.watcher.Watcher.{Watcher}
use Rattle.role_driver.specs.inner.Watchers.{Task, task_of}
use Rattle.role_driver.specs.inner.Gathering.{HasPublished, with_last}

-- ---- readings

read_is : (initials : List ℤ) (known : Known) (o : ℕ) (r : Reading) → was_read initials known o r ≡ true → WasRead initials known o r
read_is initials known o r h =
    let parts = and_parts (nat_le r.ends (length known.list)) _ h in
    record {
      ends = leb-true r.ends (length known.list) parts.0;
      value =
          (Decides-int_eq r.value (value_after initials (take r.ends known.list) o)).0 parts.1;
    }

is_read : (initials : List ℤ) (known : Known) (o : ℕ) (r : Reading) → WasRead initials known o r → was_read initials known o r ≡ true
is_read initials known o r w =
    let low : nat_le r.ends (length known.list) ≡ true = (let l = w.ends in grind (arith, nat_tests, l)) in
    and_from _ _ low (subst (λ v. int_eq v (value_after initials (take r.ends known.list) o) ≡ true) (sym w.value)
    (int_eq_equiv.refl (value_after initials (take r.ends known.list) o)))

-- what was read stays right as more is published
all_stay : (initials : List ℤ) (before after : Known) (o : ℕ) → Begins before after → (rs : List Reading)
    → list_all (was_read initials before o) rs ≡ true → list_all (was_read initials after o) rs ≡ true
all_stay initials before after o more [] h = refl
all_stay initials before after o more (r ∷ rs) h =
    let parts = and_parts (was_read initials before o r) _ h in
    and_from _ _ (is_read initials after o r (still_read initials before after o r more (read_is initials before o r parts.0)))
    (all_stay initials before after o more rs parts.1)

pub record_stays : (initials : List ℤ) (before after : Known) (o : ℕ) (rs : List Reading) → Begins before after
    → is_record initials before o rs ≡ true → is_record initials after o rs ≡ true
record_stays initials before after o rs more h =
    let parts = and_parts (list_all (was_read initials before o) rs) (ends_rise rs) h in
    and_from _ _ (all_stay initials before after o more rs parts.0) parts.1

-- the last of these readings
abbrev last_reading : Reading → List Reading → Reading
last_reading r [] = r
last_reading r (q ∷ qs) = last_reading q qs

last_at : (r : Reading) (rs : List Reading) (d : Reading) → slice_index_or (r ∷ rs) (length rs) d ≡ last_reading r rs
last_at r [] d = refl
last_at r (q ∷ qs) d = last_at q qs d

rises_further : (r : Reading) (rs : List Reading) (s : Reading) → is_rising_above r.ends (map (λ q. q.ends) rs) ≡ true
    → nat_lt (last_reading r rs).ends s.ends ≡ true → is_rising_above r.ends (map (λ q. q.ends) (rs ++ s ∷ [])) ≡ true
rises_further r [] s h l = and_from _ _ l refl
rises_further r (q ∷ qs) s h l = let parts = and_parts (nat_lt r.ends q.ends) _ h in and_from _ _ parts.0 (rises_further q qs s parts.1 l)

rise_more : (rs : List Reading) (s : Reading) → ends_rise rs ≡ true → is_news rs s ≡ true → ends_rise (rs ++ s ∷ []) ≡ true
rise_more [] s h n = refl
rise_more (r ∷ rs) s h n =
    let at : suc (length rs) - 1 ≡ length rs = omega arith in
    let last : slice_index_or (r ∷ rs) (suc (length rs) - 1) s ≡ last_reading r rs = ap (λ i. slice_index_or (r ∷ rs) i s) at
    ∙ last_at r rs s in
    rises_further r rs s h (subst (λ (q : Reading). nat_lt q.ends s.ends ≡ true) last n)

-- news is recorded
pub record_more : (initials : List ℤ) (before after : Known) (o : ℕ) (rs : List Reading) (r : Reading) → Begins before after
    → is_record initials before o rs ≡ true → IsReading initials after o r → is_news rs r ≡ true
    → is_record initials after o (rs ++ r ∷ []) ≡ true
record_more initials before after o rs r more h now n =
    let parts = and_parts (list_all (was_read initials before o) rs) (ends_rise rs) h in
    let own = is_read initials after o r (read_then initials after o r now) in
    and_from _ _ (list_all-append (was_read initials after o) rs (r ∷ [])
    ∙ and_from _ _ (all_stay initials before after o more rs parts.0) (and_from _ _ own refl)) (rise_more rs r parts.1 n)

-- ---- the readings before the last, and the last

rises_lower : (low high : ℕ) (xs : List ℕ) → nat_lt low high ≡ true → is_rising_above high xs ≡ true → is_rising_above low xs ≡ true
rises_lower low high [] l h = refl
rises_lower low high (x ∷ xs) l h =
    let parts = and_parts (nat_lt high x) _ h in
    let first = parts.0 in
    let above : nat_lt low x ≡ true = grind (arith, nat_tests, l, first) in
    and_from _ _ above parts.1

rises_to : (low : ℕ) (rs : List Reading) (last : Reading) → is_rising_above low (map (λ q. q.ends) rs) ≡ true
    → nat_lt low last.ends ≡ true → is_rising_above low (map (λ q. q.ends) (with_last rs last)) ≡ true
rises_to low [] last h l = and_from _ _ l refl
rises_to low (r ∷ rs) last h l =
    let parts = and_parts (nat_lt low r.ends) _ h in
    elim (cases_Bool (nat_lt r.ends last.ends)) [
      | inl x ↦ rw x (and_from _ _ parts.0 (rises_to r.ends rs last parts.1 x))
      | inr x ↦ rw x (rises_to low rs last (rises_lower low r.ends (map (λ q. q.ends) rs) parts.0 parts.1) l)
    ]

pub with_last_rises : (rs : List Reading) (last : Reading) → ends_rise rs ≡ true → ends_rise (with_last rs last) ≡ true
with_last_rises [] last h = refl
with_last_rises (r ∷ rs) last h = elim (cases_Bool (nat_lt r.ends last.ends)) [
  | inl x ↦ rw x (rises_to r.ends rs last h x)
  | inr x ↦ rw x (with_last_rises rs last (later rs h))
]
  where
    later : (qs : List Reading) → is_rising_above r.ends (map (λ q. q.ends) qs) ≡ true → ends_rise qs ≡ true
    later [] u = refl
    later (q ∷ qs) u = (and_parts (nat_lt r.ends q.ends) _ u).1

all_within : (rs : List Reading) (last : Reading) → all_below (suc last.ends) (map (λ q. q.ends) (with_last rs last)) ≡ true
all_within [] last = let own : nat_lt last.ends (suc last.ends) ≡ true = grind (arith, nat_tests) in and_from _ _ own refl
all_within (r ∷ rs) last = elim (cases_Bool (nat_lt r.ends last.ends)) [
  | inl x ↦ let low : nat_lt r.ends (suc last.ends) ≡ true = grind (arith, nat_tests, x) in rw x (and_from _ _ low (all_within rs last))
  | inr x ↦ rw x (all_within rs last)
]

pub with_last_few : (rs : List Reading) (last : Reading) → ends_rise rs ≡ true → length (with_last rs last) ≤ suc last.ends
with_last_few rs last h =
    let few = few_objects (suc last.ends) (map (λ q. q.ends) (with_last rs last)) (with_last_rises rs last h) (all_within rs last) in
    omega (arith, few, length-map (with_last rs last) (λ (q : Reading). q.ends))

-- ---- what was committed

module _ (plan : Plan) (past : List Entry) (w : Committed) (done : HasPublished plan past w) (law : PublishingLaw plan past)
    (commit : CommitLaw plan past) where
  pub ended : length w.publications.list ≡ length plan.plays
  ended = ap length done.all ∙ law.count ∙ commit.whole done.over

  -- a reading of the first so many publications shows what as many plays committed
  shows : (o : ℕ) (r : Reading) → WasRead w.initials w.publications o r → r.value ≡ committed_value plan past r.ends o
  shows o r was =
      let low : r.ends ≤ length (publications_of plan past) = omega (arith, was.ends, ap length done.all) in
      was.value ∙ ap (λ i. value_after i (take r.ends w.publications.list) o) done.initials
      ∙ ap (λ l. value_after (initials_of plan) (take r.ends l) o) done.all ∙ law.values r.ends o low

  -- so does one by an observer that knows all that was published, where it is of no more
  shows_known : (known : Known) (o : ℕ) (r : Reading) → Begins w.publications known → r.ends ≤ length w.publications.list
      → WasRead w.initials known o r → r.value ≡ committed_value plan past r.ends o
  shows_known known o r more low was =
      let same : take r.ends known.list ≡ take r.ends w.publications.list = ap (take r.ends) (sym more.list.1)
      ∙ take-append-le r.ends w.publications.list more.list.0 low in
      shows o r (record { ends = low; value = was.value ∙ ap (λ l. value_after w.initials l o) same })

  pub all_committed : (known : Known) (o : ℕ) (rs : List Reading) (last : Reading) → Begins w.publications known
      → list_all (was_read w.initials known o) rs ≡ true → IsReading w.initials w.publications o last
      → All (λ r. r.value ≡ committed_value plan past r.ends o) (with_last rs last)
  all_committed known o [] last more h is =
      All-cons (λ (r : Reading). r.value ≡ committed_value plan past r.ends o) last []
      (shows o last (read_then w.initials w.publications o last is))
      (All-nil (λ (r : Reading). r.value ≡ committed_value plan past r.ends o))
  all_committed known o (r ∷ rs) last more h is =
      let parts = and_parts (was_read w.initials known o r) _ h in
      let rest = all_committed known o rs last more parts.1 is in
      elim (cases_Bool (nat_lt r.ends last.ends)) [
        | inl x ↦
            let low : r.ends ≤ length w.publications.list = omega (arith, ltb-true r.ends last.ends x, is.ends) in
            rw x (All-cons (λ (q : Reading). q.value ≡ committed_value plan past q.ends o) r (with_last rs last)
            (shows_known known o r more low (read_is w.initials known o r parts.0)) rest)
        | inr x ↦ rw x rest
      ]

-- all that makes the looks of a watch right
pub record AreGood (plan : Plan) (past : List Entry) (o : ℕ) (rs : List Reading) (last : Reading) : Type 0 where
  pub committed : All (λ r. r.value ≡ committed_value plan past r.ends o) (with_last rs last)
  pub rise : ends_rise (with_last rs last) ≡ true
  pub few : length (with_last rs last) ≤ suc (length plan.plays)
  pub end : last.ends ≡ length plan.plays

pub are_good : (plan : Plan) (past : List Entry) (w : Committed) → HasPublished plan past w → PublishingLaw plan past
    → CommitLaw plan past → (seer : Watching) (o old new : ℕ) (rs : List Reading) (last : Reading)
    → seer.initials ≡ w.initials → old ≡ o → new ≡ o → Begins w.publications seer.known
    → is_record seer.initials seer.known new rs ≡ true → IsReading w.initials w.publications old last → AreGood plan past o rs last
are_good plan past w done law commit seer o old new rs last same was is more h now =
    let h' = subst (λ x. is_record seer.initials seer.known x rs ≡ true) is h in
    let right = subst (λ i. is_record i seer.known o rs ≡ true) same h' in
    let parts = and_parts (list_all (was_read w.initials seer.known o) rs) (ends_rise rs) right in
    let read = subst (λ x. IsReading w.initials w.publications x last) was now in
    let end : last.ends ≡ length plan.plays = read.ends ∙ ended plan past w done law commit in
    record {
      committed = all_committed plan past w done law commit seer.known o rs last more parts.0 read;
      rise = with_last_rises rs last parts.1;
      few = omega (arith, with_last_few rs last parts.1, end);
      end = end;
    }

pub row_fits : (k n s : ℕ) → k < n → k * s + s ≤ n * s
row_fits k zero s l = absurd (omega (arith, l))
row_fits k (suc n) s l = elim (cases_lt k n) [
  | inl below ↦ omega (arith, row_fits k n s below, suc-mul n s)
  | inr above ↦ let same : k ≡ n = omega (arith, l, above) in omega (arith, ap (λ x. x * s) same, suc-mul n s)
]

-- the task of one watcher among all
pub task_among : (ws : List Watcher) (f : ℕ → Task) (os : List ℕ) (i : ℕ) (x : Watcher) → map task_of ws ≡ map f os
    → i < length os → x ≡ get_or ws i x → task_of x ≡ f (slice_index_or os i 0)
task_among ws f os i x same low is =
    ap task_of is ∙ sym (read_mapped task_of ws i x) ∙ ap (λ l. get_or l i (task_of x)) same ∙ get_or-map f os i 0 (task_of x) low
