-- A writer goes on publishing the ends of plays, entry by entry.
use Rattle.std.proofs.Common.{◌≡◌, ℕ, ℤ, ◌+◌, ◌<◌, ◌++◌, Bool, true, false, true≢false, List, [], ◌∷◌, length, map, take, get_or, length-append, All, Result, Ok, Err, if◌then◌else◌, refl, sym, ap, ◌∙◌, subst, arith, inl, inr, ⊎_elim}
use Rattle.std.specs.Prelude.{MatchResult, is_err}
use mathlib.Core.List.{IsPrefix}
use Rattle.std.proofs.lemmas.Bool.{cases_Bool}
use Rattle.std.proofs.lemmas.List.{take_more, map-append, length-map}
use Rattle.std.proofs.lemmas.List.Elements.{All-map}
use Rattle.place_plan.specs.Plans.Closed.{IsClosed}
use Rattle.place_plan.specs.Plans.Places.{objects_of, initials_of}
use Rattle.place_plan.proofs.OnPlans.Casts.{member_at}
use Rattle.place_plan.specs.RulesOfJournals.Objects.{value_of}
use Rattle.place_plan.specs.RulesOfJournals.Journals.{ends_play, plays_ended}
use Rattle.journal_laws.proofs.PlayablePlan.{is_playable}
use Rattle.caa_base.specs.declared.written.entry.Entry.{Entry}
use Rattle.place_plan.specs.Plans.PlanValue.{Plan}
use Rattle.shared_views.specs.Publications.{Changes, Known}
use Rattle.shared_views.proofs.Beginnings.{begins_itself, begins_further}
use Rattle.shared_views.specs.Committing.{Committed, MayEnter}
use Rattle.action_manager.specs.Publishing.{values_of, publications_of, Publishes}

-- the end of a play adds what it publishes
one_more : (plan : Plan) (past : List Entry) (e : Entry) → ends_play plan e ≡ true
    → publications_of plan (e ∷ past) ≡ publications_of plan past ++ values_of plan (e ∷ past) e.place ∷ []
one_more plan past e is =
    ap (λ b. if b then publications_of plan past
    ++ values_of plan (e ∷ past) e.place ∷ [] else publications_of plan past) is

both_grow : {A B : Type 0} (b : Bool) (xs : List A) (ys : List B) (x : A) (y : B) → length xs ≡ length ys
    → length (if b then xs ++ x ∷ [] else xs) ≡ length (if b then ys ++ y ∷ [] else ys)
both_grow true xs ys x y same = length-append xs (x ∷ []) ∙ (ap (λ n. n + 1) same ∙ sym (length-append ys (y ∷ [])))
both_grow false xs ys x y same = same

-- as often was published as plays have ended
pub as_many : (plan : Plan) (past : List Entry) → length (publications_of plan past) ≡ length (plays_ended plan past)
as_many plan [] = refl
as_many plan (e ∷ past) =
    both_grow (ends_play plan e) (publications_of plan past) (plays_ended plan past)
    (values_of plan (e ∷ past) e.place) e.place (as_many plan past)

no_elements : {A : Type 0} (xs : List A) → length xs ≡ 0 → xs ≡ []
no_elements [] none = refl
no_elements (x ∷ xs) none = absurd (omega (arith, none))

-- before any play has ended nothing was published
pub none_published : (plan : Plan) (past : List Entry) → plays_ended plan past ≡ [] → publications_of plan past ≡ []
none_published plan past none = no_elements (publications_of plan past) (as_many plan past ∙ ap length none)

-- a writer that has published all
all_entered : (plan : Plan) (past : List Entry) (w : Committed) → w.initials ≡ initials_of plan
    → w.publications.list ≡ publications_of plan past → w.entered ≡ w.publications → w.is_stale ≡ false → Publishes plan past w
all_entered plan past w initials same whole fresh = record {
  initials = initials;
  first = subst (IsPrefix w.publications.list) same (begins_itself w.publications.list);
  all = λ _. same;
  left_out = λ late. absurd (true≢false (sym late ∙ fresh));
  entered = subst (IsPrefix w.entered.list) (ap (λ (k : Known). k.list) whole ∙ same) (begins_itself w.entered.list);
  whole = λ _. whole;
}

-- a new writer, before any play has ended
pub publishes_none : (plan : Plan) (past : List Entry) (w : Committed) → plays_ended plan past ≡ []
    → w.initials ≡ initials_of plan → w.publications.list ≡ [] → w.entered ≡ w.publications → w.is_stale ≡ false
    → Publishes plan past w
publishes_none plan past w none initials list whole fresh =
    let same : w.publications.list ≡ publications_of plan past = list ∙ sym (none_published plan past none) in
    all_entered plan past w initials same whole fresh

was_fresh : {X : Type 0} (b : Bool) → (b ≡ true → X) → (X → ⊥) → b ≡ false
was_fresh true told never = absurd (never (told refl))
was_fresh false told never = refl

-- where no memory was found, all that was entered is what the plays published
more_entered : (plan : Plan) (past : List Entry) (e : Entry) (w w' : Committed) (changes : Changes) → ends_play plan e ≡ true
    → changes ≡ values_of plan (e ∷ past) e.place → MayEnter w.entered changes w'.entered → (w.is_stale ≡ true → w' ≡ w)
    → Publishes plan past w → IsPrefix w'.entered.list (publications_of plan (e ∷ past))
more_entered plan past e w w' changes is same entered stays k =
    let more = one_more plan past e is in
    let before : IsPrefix w.entered.list (publications_of plan (e ∷ past)) =
    begins_further w.entered.list (publications_of plan past) (publications_of plan (e ∷ past)) k.entered
    (values_of plan (e ∷ past) e.place ∷ [], sym more) in
    let as_it_was : w'.entered ≡ w.entered → IsPrefix w'.entered.list (publications_of plan (e ∷ past)) =
    λ kept. subst (λ (l : Known). IsPrefix l.list (publications_of plan (e ∷ past))) (sym kept) before in
    elim (cases_Bool w.is_stale) [
      | inl late ↦ as_it_was (ap (λ (c : Committed). c.entered) (stays late))
      | inr fresh ↦
          ⊎_elim as_it_was
          (λ (t : (w'.entered.book ≡ w.entered.book) × (w'.entered.list ≡ w.entered.list ++ changes ∷ [])).
          let all : w'.entered.list ≡ publications_of plan (e ∷ past) =
          t.1 ∙ (ap (λ l. l ++ changes ∷ []) (ap (λ (l : Known). l.list) (k.whole fresh) ∙ k.all fresh)
          ∙ (ap (λ c. publications_of plan past ++ c ∷ []) same ∙ sym more)) in
          subst (IsPrefix w'.entered.list) all (begins_itself w'.entered.list)) entered
    ]

-- the end of a play was published, or no memory was found
pub an_end : {A E : Type 0} (plan : Plan) (past : List Entry) (e : Entry) (w w' : Committed) (changes : Changes)
    (r : Result A E) (late : E) → ends_play plan e ≡ true → changes ≡ values_of plan (e ∷ past) e.place
    → w'.initials ≡ w.initials
    → MatchResult r (λ _. w'.publications.list ≡ w.publications.list ++ changes ∷ [])
    (λ _. w'.publications ≡ w.publications)
    → MatchResult r (λ _. w'.entered ≡ w'.publications) (λ _. MayEnter w.entered changes w'.entered) → w'.is_stale ≡ is_err r
    → (w.is_stale ≡ true → r ≡ Err late) → (w.is_stale ≡ true → w' ≡ w) → Publishes plan past w → Publishes plan (e ∷ past) w'
an_end plan past e w w' changes (Ok a) late is same initials list entered marked stale stays k =
    let was : w.is_stale ≡ false = was_fresh w.is_stale stale (λ told. true≢false (ap is_err (sym told))) in
    let all : w'.publications.list ≡ publications_of plan (e ∷ past) =
    list ∙ (ap (λ l. l ++ changes ∷ []) (k.all was)
    ∙ (ap (λ c. publications_of plan past ++ c ∷ []) same ∙ sym (one_more plan past e is))) in
    all_entered plan (e ∷ past) w' (initials ∙ k.initials) all entered marked
an_end plan past e w w' changes (Err x) late is same initials list entered marked stale stays k =
    let further =
    begins_further w.publications.list (publications_of plan past) (publications_of plan (e ∷ past)) k.first
    (values_of plan (e ∷ past) e.place ∷ [], sym (one_more plan past e is)) in
    let one : length (publications_of plan (e ∷ past)) ≡ length (publications_of plan past) + 1 =
    ap length (one_more plan past e is) ∙ length-append (publications_of plan past) (values_of plan (e ∷ past) e.place ∷ []) in
    let front : length w.publications.list + length k.first.0 ≡ length (publications_of plan past) =
    sym (length-append w.publications.list k.first.0) ∙ ap length k.first.1 in
    record {
      initials = initials ∙ k.initials;
      first = subst (λ (l : Known). IsPrefix l.list (publications_of plan (e ∷ past))) (sym list) further;
      all = λ fresh. absurd (true≢false (sym marked ∙ fresh));
      left_out = λ _. omega (arith, one, front, ap (λ (l : Known). length l.list) list);
      entered = more_entered plan past e w w' changes is same entered stays k;
      whole = λ fresh. absurd (true≢false (sym marked ∙ fresh));
    }

-- each object of a place is one of the plan's
pub object_known : (plan : Plan) → IsClosed plan → (p i d : ℕ) → i < length (objects_of plan p)
    → get_or (objects_of plan p) i d < length plan.objects
object_known plan closed p i d low =
    (is_playable plan closed).objects p (get_or (objects_of plan p) i d) (member_at (objects_of plan p) i d low)

pub values_known : (plan : Plan) → IsClosed plan → (past : List Entry) (p : ℕ) (initials : List ℤ)
    → initials ≡ initials_of plan → All (λ c. c.0 < length initials) (values_of plan past p)
values_known plan closed past p initials is =
    let wide : length initials ≡ length plan.objects = ap length is ∙ length-map plan.objects (λ o. o.initial) in
    subst (λ n. All (λ c. c.0 < n) (values_of plan past p)) (sym wide)
    (All-map (λ (c : ℕ × ℤ). c.0 < length plan.objects) (λ o. (o, value_of plan past o)) (objects_of plan p)
    (λ k d low. object_known plan closed p k d low))

-- one element more
pub mapped_more : (f : ℕ → ℕ × ℤ) (xs : List ℕ) (i d : ℕ) → i < length xs
    → map f (take i xs) ++ f (get_or xs i d) ∷ [] ≡ map f (take (i + 1) xs)
mapped_more f xs i d low = sym (ap (map f) (take_more xs i d low) ∙ map-append f (take i xs) (get_or xs i d ∷ []))
