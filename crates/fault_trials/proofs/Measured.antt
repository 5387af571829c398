-- What is noted of journals comes from them.
use Rattle.std.proofs.Common.{◌≡◌, ◌∙◌, ◌⊎◌, ℕ, zero, suc, ◌+◌, ◌<◌, List, [], ◌∷◌, ◌++◌, refl, ap, sym, subst, length, take, get_or, inl, inr, arith}
use Rattle.std.specs.Prelude.{ℤ, Some, slice_get}
use Rattle.std.specs.List.{All, Contains}
use Rattle.std.proofs.lemmas.List.{append-nil, append_assoc}
use Rattle.std.proofs.lemmas.List.Elements.{All-append, Contains-append_left, Contains-append_right}
use Rattle.std.proofs.lemmas.Option.{slice_get-get_or}
use Rattle.caa_base.specs.declared.written.entry.Entry.{Entry}
use Rattle.place_plan.specs.Plans.PlanValue.{Plan}
use Rattle.place_plan.specs.Plans.Places.{initials_of}
use Rattle.rehearsals.specs.Facts.{values_after}
use Rattle.fault_trials.specs.Classes.{Measure}
use Rattle.fault_trials.specs.Measures.{IsLeftBy, IsWayBy, IsLeftIn, IsWayIn, IsInOne, IsMeasured, IsAddedOnce, GrewBy}
use Rattle.fault_trials.specs.declared.measure.Left.{Left}
use Rattle.fault_trials.specs.declared.measure.Way.{Way}
use Rattle.fault_trials.specs.declared.trials.Base.{Base}

-- ---- lists that grow

pub all_nothing : {T : Type 0} (P : T → Type 0) (xs : List T) → xs ≡ [] → All P xs
all_nothing P xs none = λ k d low. absurd (let nothing : length xs ≡ 0 = ap length none in omega (arith, nothing))

one_so : {T : Type 0} (P : T → Type 0) (x : T) → P x → All P (x ∷ [])
one_so P x h zero d low = h
one_so P x h (suc k) d low = absurd (omega arith)

pub grew_none : {T : Type 0} (P : T → Type 0) (xs : List T) → GrewBy P xs xs
grew_none P xs = record { more = []; added = sym (append-nil xs); each = all_nothing P [] refl }

pub grew_grew : {T : Type 0} (P : T → Type 0) (a b c : List T) → GrewBy P a b → GrewBy P b c → GrewBy P a c
grew_grew P a b c ab bc = record {
  more = ab.more ++ bc.more;
  added = bc.added ∙ ap (λ xs. xs ++ bc.more) ab.added ∙ append_assoc a ab.more bc.more;
  each = All-append P ab.more bc.more ab.each bc.each;
}

pub stays_once : {T : Type 0} (xs : List T) (x : T) → IsAddedOnce xs xs x
stays_once xs x = inl refl

pub added_once : {T : Type 0} (old new : List T) (x : T) → new ≡ old ++ x ∷ [] → IsAddedOnce old new x
added_once old new x added = inr added

pub grew_once : {T : Type 0} (P : T → Type 0) (old new : List T) (x : T) → IsAddedOnce old new x → P x → GrewBy P old new
grew_once P old new x (inl same) is = subst (GrewBy P old) (sym same) (grew_none P old)
grew_once P old new x (inr added) is = record { more = x ∷ []; added = added; each = one_so P x is }

pub grew_weaker : {T : Type 0} (P Q : T → Type 0) (old new : List T) → ((x : T) → P x → Q x) → GrewBy P old new → GrewBy Q old new
grew_weaker P Q old new weaker grew = record {
  more = grew.more;
  added = grew.added;
  each = λ k d low. weaker (get_or grew.more k d) (grew.each k d low);
}

all_grown : {T : Type 0} (P : T → Type 0) (old new : List T) → All P old → GrewBy P old new → All P new
all_grown P old new so grew = subst (All P) (sym grew.added) (All-append P old grew.more so grew.each)

-- ---- journals that are added

in_here : {T : Type 0} (P : List Entry → T → Type 0) (bases : List Base) (base : Base) (x : T) → P base.journal.entries x
    → IsInOne P (bases ++ base ∷ []) x
in_here P bases base x so = record {
  base = base;
  among = Contains-append_right bases (base ∷ []) base (0, (omega arith), refl);
  so = so;
}

in_later : {T : Type 0} (P : List Entry → T → Type 0) (bases : List Base) (base : Base) (x : T) → IsInOne P bases x
    → IsInOne P (bases ++ base ∷ []) x
in_later P bases base x before = record {
  base = before.base;
  among = Contains-append_left bases (base ∷ []) before.base before.among;
  so = before.so;
}

usual_more : {T : Type 0} (P : List Entry → T → Type 0) (old new : List T) (bases : List Base) (base : Base)
    → All (IsInOne P bases) old → GrewBy (P base.journal.entries) old new → All (IsInOne P (bases ++ base ∷ [])) new
usual_more P old new bases base before grew =
    all_grown (IsInOne P (bases ++ base ∷ [])) old new
    (λ k d low. in_later P bases base (get_or old k d) (before k d low))
    (grew_weaker (P base.journal.entries) (IsInOne P (bases ++ base ∷ [])) old new (λ x is. in_here P bases base x is) grew)

pub measured_more : (plan played : Plan) (old new : Measure) (bases more : List Base) (base : Base) (entries : List Entry)
    → played ≡ plan → more ≡ bases ++ base ∷ [] → entries ≡ base.journal.entries → IsMeasured plan old bases
    → GrewBy (IsLeftIn played entries) old.lefts new.lefts → GrewBy (IsWayIn played entries) old.ways new.ways
    → IsMeasured played new more
measured_more plan played old new bases more base entries same added is so lefts ways =
    let before : IsMeasured played old bases = subst (λ p. IsMeasured p old bases) (sym same) so in
    let left_here : GrewBy (IsLeftIn played base.journal.entries) old.lefts new.lefts =
    subst (λ es. GrewBy (IsLeftIn played es) old.lefts new.lefts) is lefts in
    let way_here : GrewBy (IsWayIn played base.journal.entries) old.ways new.ways =
    subst (λ es. GrewBy (IsWayIn played es) old.ways new.ways) is ways in
    record {
      lefts = subst (λ bs. All (IsInOne (IsLeftIn played) bs) new.lefts) (sym added)
          (usual_more (IsLeftIn played) old.lefts new.lefts bases base before.lefts left_here);
      ways = subst (λ bs. All (IsInOne (IsWayIn played) bs) new.ways) (sym added)
          (usual_more (IsWayIn played) old.ways new.ways bases base before.ways way_here);
    }

pub measured_none : (plan : Plan) (m : Measure) (bases : List Base) → m.lefts ≡ [] → m.ways ≡ [] → IsMeasured plan m bases
measured_none plan m bases lefts ways = record {
  lefts = all_nothing (IsInOne (IsLeftIn plan) bases) m.lefts lefts;
  ways = all_nothing (IsInOne (IsWayIn plan) bases) m.ways ways;
}

-- ---- the entries of a journal

-- what an entry ends is ended in its journal
pub left_there : (plan : Plan) (es : List Entry) (i : ℕ) (d : Entry) (values : List ℤ) (old new : List Left) → i < length es
    → values ≡ values_after (initials_of plan) (take i es) → GrewBy (IsLeftBy plan (get_or es i d) values) old new
    → GrewBy (IsLeftIn plan es) old new
left_there plan es i d values old new low same grew =
    grew_weaker (IsLeftBy plan (get_or es i d) values) (IsLeftIn plan es) old new
    (λ left is. record {
      index = i;
      ending = get_or es i d;
      stands = slice_get-get_or es i d low;
      so = subst (λ vs. IsLeftBy plan (get_or es i d) vs left) same is;
    }) grew

pub way_there : (plan : Plan) (es : List Entry) (i : ℕ) (d : Entry) (old new : List Way) → i < length es
    → GrewBy (IsWayBy plan (get_or es i d)) old new → GrewBy (IsWayIn plan es) old new
way_there plan es i d old new low grew =
    grew_weaker (IsWayBy plan (get_or es i d)) (IsWayIn plan es) old new
    (λ way is. record { index = i; ending = get_or es i d; stands = slice_get-get_or es i d low; so = is }) grew
