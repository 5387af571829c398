-- What is told of the ends of places, and of what the uses of an action carry out.
use Rattle.std.proofs.Common.{◌≡◌, ℕ, ◌+◌, ◌<◌, ◌≤◌, Bool, true, false, not, ◌&&◌, ◌||◌, List, [], ◌∷◌, length, slice_index_or, slice_get, Some, None, zero, suc, refl, sym, subst, arith, inl, inr, add-zero, zero-add}
use Rattle.std.specs.List.{list_all, list_any, range_with_len}
use Rattle.std.proofs.lemmas.Bool.{and_parts, and_from, or_cases, eqb-true, false≢true, cases_eq}
use Rattle.cover_table.specs.Cover.{CoverOrder, IsLeastCover}
use Rattle.caa_base.specs.declared.written.entry.Outcome.{Outcome}
use Rattle.caa_base.specs.declared.written.entry.Outcome.TheVariants as outcome
use Rattle.caa_base.specs.declared.written.entry.Verdict.{Verdict}
use Rattle.caa_base.specs.Written.Lists.{member, is_empty}
use Rattle.caa_base.proofs.ListLemmas.{all_at, chosen}
use Rattle.place_plan.specs.declared.drafts.draft_rows.AbortRow.{AbortRow}
use Rattle.place_plan.specs.declared.drafts.draft_rows.AbortRow.TheVariants as abort
use Rattle.place_plan.specs.declared.drafts.draft_rows.ActionRow.{ActionRow}
use Rattle.place_plan.specs.declared.drafts.draft_rows.NestRow.{NestRow}
use Rattle.place_plan.specs.declared.drafts.draft_rows.RoleRow.{RoleRow}
use Rattle.place_plan.specs.Plans.PlanValue.{Plan}
use Rattle.place_plan.specs.Plans.Places.{no_nest}
use Rattle.place_plan.proofs.OnPlans.Casts.{use_there}
use Rattle.journal_laws.specs.Due.{is_least}
use Rattle.journal_laws.proofs.LeastOf.{is_least_from}
use Rattle.journal_laws.proofs.Options.{some_apart, some_same}
use Rattle.reach_laws.specs.ReachedSteps.{names_at_abort, all_signals, EndsBy}
use Rattle.reach_laws.specs.CanCome.{action_of, use_in, is_entered, can_name, made_of}
use Rattle.reach_laws.proofs.ListsAlone.{at_member}
use Rattle.reach_tables.specs.declared.table.ReachRow.{ReachRow}
use Rattle.reach_tables.specs.ReachTable.{row_of, tells_end, has_beside, tells_abort, tells_ends, tells_aborts, tells_failure, tells_alternates, tells_use, tells_uses, tells_signals, tells_verdicts, LeavesNothingOut}

-- ---- tests and lists

pub implied : (b c : Bool) → not b || c ≡ true → b ≡ true → c ≡ true
implied true c h e = h
implied false c h e = absurd (false≢true e)

pub or_other : (b c : Bool) → b || c ≡ true → b ≡ false → c ≡ true
or_other true c h e = absurd (false≢true (sym e))
or_other false c h e = h

pub range_passes : (f : ℕ → Bool) (a n k : ℕ) → list_all f (range_with_len a n) ≡ true → a ≤ k → k < a + n → f k ≡ true
range_passes f a zero k h l m = absurd (omega arith)
range_passes f a (suc n) k h l m =
    let parts = and_parts (f a) (list_all f (range_with_len (a + 1) n)) h in
    elim (cases_eq a k) [
      | inl e ↦ subst (λ z. f z ≡ true) e parts.0
      | inr e ↦ range_passes f (a + 1) n k parts.1 (omega arith) (omega arith)
    ]

-- where all pass one test, and one passes another, that one passes both
from_any : {A : Type 0} (f g : A → Bool) (b : Bool) (xs : List A) → list_all f xs ≡ true → list_any g xs ≡ true
    → ((x : A) → f x ≡ true → g x ≡ true → b ≡ true) → b ≡ true
from_any f g b [] h k each = absurd (false≢true k)
from_any f g b (x ∷ xs) h k each =
    let parts = and_parts (f x) (list_all f xs) h in
    elim (or_cases (g x) (list_any g xs) k) [
      | inl e ↦ each x parts.0 e
      | inr e ↦ from_any f g b xs parts.1 e each
    ]

-- ---- how places end

signals_told : (order : CoverOrder) (row : ReachRow) (xs : List ℕ) (x : ℕ) → 0 < length xs → IsLeastCover order xs x
    → tells_signals order row xs ≡ true → member x row.signals ≡ true
signals_told order row [] x some least h = absurd (omega arith)
signals_told order row (y ∷ ys) x some least h =
    implied (is_least order (y ∷ ys) x) (member x row.signals)
    (range_passes (λ z. not (is_least order (y ∷ ys) z) || member z row.signals) 0 order.count x h (omega arith)
    (let below = least.in_range in omega arith)) (is_least_from order (y ∷ ys) x least)

pub ends_told : (order : CoverOrder) (row : ReachRow) (verdicts : List Verdict) (how : Outcome)
    → tells_verdicts order row verdicts ≡ true → EndsBy order verdicts how → tells_end row how ≡ true
ends_told order row verdicts outcome.Commit h said =
    subst (λ xs. tells_signals order row xs ≡ true) said.1 (rw said.0 at h)
ends_told order row verdicts (outcome.Signal x) h said =
    signals_told order row (all_signals verdicts) x said.1 said.2 (rw said.0 at h)
ends_told order row verdicts outcome.Undone h said = rw said at h
ends_told order row verdicts outcome.Aborted h said = elim said [ ]
ends_told order row verdicts outcome.Failed h said = elim said [ ]

-- ---- what uses carry out

pub made_told : (nest : NestRow) (raised : List ℕ) (is_last last : Bool) (row : ReachRow) (how : Outcome) (x : ℕ)
    → tells_ends nest raised last row ≡ true → (is_last ≡ true → last ≡ true) → tells_end row how ≡ true
    → made_of nest is_last how ≡ Some x → member x raised ≡ true
made_told nest raised is_last last row how x h up told made = by_how how told made
  where
    parts : (list_all (λ x. member (slice_index_or nest.maps x 0) raised) row.signals ≡ true)
        × ((not (row.undone && last) || member nest.undo raised) && (not row.failed || member nest.failure raised) ≡ true)
    parts = and_parts (list_all (λ x. member (slice_index_or nest.maps x 0) raised) row.signals) _ h

    others : (not (row.undone && last) || member nest.undo raised ≡ true) × (not row.failed || member nest.failure raised ≡ true)
    others = and_parts (not (row.undone && last) || member nest.undo raised) _ parts.1

    by_how : (how : Outcome) → tells_end row how ≡ true → made_of nest is_last how ≡ Some x → member x raised ≡ true
    by_how outcome.Commit told made = absurd (some_apart made)
    by_how (outcome.Signal y) told made =
        subst (λ z. member z raised ≡ true) (some_same made)
        (all_at (λ x. member (slice_index_or nest.maps x 0) raised) row.signals y parts.0 told)
    by_how outcome.Undone told made = elim (chosen is_last (Some nest.undo) None (Some x) made) [
      | inl z ↦
          subst (λ z. member z raised ≡ true) (some_same z.1)
          (implied (row.undone && last) (member nest.undo raised) others.0 (and_from row.undone last told (up z.0)))
      | inr z ↦ absurd (some_apart z.1)
    ]
    by_how outcome.Aborted told made = absurd (false≢true told)
    by_how outcome.Failed told made =
        subst (λ z. member z raised ≡ true) (some_same made) (implied row.failed (member nest.failure raised) others.1 told)

abort_told : (nest : NestRow) (raised : List ℕ) (z : ℕ) (row : AbortRow) → tells_abort nest raised row ≡ true
    → names_at_abort z row ≡ true → member (slice_index_or nest.maps z 0) raised ≡ true
abort_told nest raised z abort.Never h n = absurd (false≢true n)
abort_told nest raised z (abort.Always y) h n =
    subst (λ u. member (slice_index_or nest.maps u 0) raised ≡ true) (eqb-true y z n) h
abort_told nest raised z (abort.Where test bound y) h n =
    subst (λ u. member (slice_index_or nest.maps u 0) raised ≡ true) (eqb-true y z n) h

pub names_told : (nest : NestRow) (raised : List ℕ) (z : ℕ) (action : ActionRow) → tells_aborts nest raised action ≡ true
    → can_name action z ≡ true → member (slice_index_or nest.maps z 0) raised ≡ true
names_told nest raised z action h n =
    from_any (λ (role : RoleRow). tells_abort nest raised role.abort) (λ (role : RoleRow). names_at_abort z role.abort)
    (member (slice_index_or nest.maps z 0) raised) action.roles h n (λ role. abort_told nest raised z role.abort)

pub failure_told : (nest : NestRow) (raised : List ℕ) (action : ActionRow) → tells_failure nest raised action ≡ true
    → is_empty action.objects ≡ false → member nest.failure raised ≡ true
failure_told nest raised action h some = or_other (is_empty action.objects) (member nest.failure raised) h some

-- the parts of what is told of an alternate
four_told : (ends beside aborts failure later : Bool) → (ends && (not beside || (aborts && failure))) && later ≡ true
    → (ends ≡ true) × (beside ≡ true → aborts ≡ true) × (beside ≡ true → failure ≡ true) × (later ≡ true)
four_told ends beside aborts failure later h = (
  here.0,
  λ e. (and_parts aborts failure (implied beside (aborts && failure) here.1 e)).0,
  λ e. (and_parts aborts failure (implied beside (aborts && failure) here.1 e)).1,
  parts.1,
)
  where
    parts : (ends && (not beside || (aborts && failure)) ≡ true) × (later ≡ true)
    parts = and_parts (ends && (not beside || (aborts && failure))) later h

    here : (ends ≡ true) × (not beside || (aborts && failure) ≡ true)
    here = and_parts ends (not beside || (aborts && failure)) parts.0

-- the alternate at j is the last
abbrev pub last_at : List ℕ → ℕ → Bool
last_at [] j = false
last_at (b ∷ rest) zero = is_empty rest
last_at (b ∷ rest) (suc j) = last_at rest j

pub at_end : (acts : List ℕ) (j b : ℕ) → slice_get acts j ≡ Some b → suc j ≡ length acts → last_at acts j ≡ true
at_end [] j b h e = absurd (some_apart h)
at_end (c ∷ []) zero b h e = refl
at_end (c ∷ d ∷ rest) zero b h e = absurd (omega arith)
at_end (c ∷ rest) (suc j) b h e = at_end rest j b h (omega arith)

module _ (plan : Plan) (table : List ReachRow) where
  -- what is told of the alternate at j, where each before it can be undone
  pub record TurnTold (nest : NestRow) (row : ReachRow) (k : ℕ) (beside : Bool) (acts : List ℕ) (j b : ℕ) : Type 0 where
    pub ends : tells_ends nest (slice_index_or row.by_uses k []) (last_at acts j) (row_of table b) ≡ true
    pub aborts : beside ≡ true → tells_aborts nest (slice_index_or row.given_up k []) (action_of plan b) ≡ true
    pub failure : beside ≡ true → tells_failure nest (slice_index_or row.by_uses k []) (action_of plan b) ≡ true

  module _ (nest : NestRow) (row : ReachRow) (k : ℕ) (beside : Bool) where
    first_told : (b : ℕ) (rest : List ℕ) → tells_alternates plan table nest row k beside (b ∷ rest) ≡ true
        → TurnTold nest row k beside (b ∷ rest) 0 b
        × (not (row_of table b).undone || tells_alternates plan table nest row k beside rest ≡ true)
    first_told b rest h =
        let parts = four_told _ beside _ _ _ h in
        (record { ends = parts.0; aborts = parts.1; failure = parts.2 }, parts.3)

    later_told : (c : ℕ) (rest : List ℕ) (j b : ℕ) → TurnTold nest row k beside rest j b
        → TurnTold nest row k beside (c ∷ rest) (suc j) b
    later_told c rest j b told = record { ends = told.ends; aborts = told.aborts; failure = told.failure }

    turn_told : (acts : List ℕ) (j b : ℕ) → tells_alternates plan table nest row k beside acts ≡ true → slice_get acts j ≡ Some b
        → ((i c : ℕ) → i < j → slice_get acts i ≡ Some c → (row_of table c).undone ≡ true)
        → TurnTold nest row k beside acts j b
    turn_told [] j b h at_j earlier = absurd (some_apart at_j)
    turn_told (c ∷ rest) zero b h at_j earlier =
        subst (TurnTold nest row k beside (c ∷ rest) 0) (some_same at_j) (first_told c rest h).0
    turn_told (c ∷ rest) (suc j) b h at_j earlier =
        later_told c rest j b
        (turn_told rest j b
        (implied (row_of table c).undone (tells_alternates plan table nest row k beside rest) (first_told c rest h).1
        (earlier zero c (omega arith) refl)) at_j (λ i d l at_i. earlier (suc i) d (omega arith) at_i))

  -- what is told of all uses is told of each
  use_of : (action : ActionRow) (row : ReachRow) (n k : ℕ) (nests : List NestRow)
      → tells_uses plan table action row n nests ≡ true → k < length nests
      → tells_use plan table action row (n + k) (slice_index_or nests k no_nest) ≡ true
  use_of action row n k [] h l = absurd (omega arith)
  use_of action row n zero (nest ∷ nests) h l =
      rw add-zero (and_parts (tells_use plan table action row n nest) (tells_uses plan table action row (suc n) nests) h).0
  use_of action row n (suc k) (nest ∷ nests) h l =
      let same : suc n + k ≡ n + suc k = omega arith in
      subst (λ z. tells_use plan table action row z (slice_index_or nests k no_nest) ≡ true) same
      (use_of action row (suc n) k nests
      (and_parts (tells_use plan table action row n nest) (tells_uses plan table action row (suc n) nests) h).1 (omega arith))

  -- an alternate can be tried, by the table
  pub record IsTurn (a k j b : ℕ) : Type 0 where
    pub entered : is_entered (action_of plan a) k ≡ true
    pub there : slice_get (use_in (action_of plan a) k).actions j ≡ Some b
    pub earlier : (i c : ℕ) → i < j → slice_get (use_in (action_of plan a) k).actions i ≡ Some c → (row_of table c).undone ≡ true

  -- what is told of an alternate that can be tried
  pub turn_of : LeavesNothingOut plan table → (a k j b : ℕ) → IsTurn a k j b
      → TurnTold (use_in (action_of plan a) k) (row_of table a) k (has_beside (action_of plan a) (row_of table a) k)
      (use_in (action_of plan a) k).actions j b
  turn_of all a k j b turn =
      let action = action_of plan a in
      let nest = use_in action k in
      let row = row_of table a in
      let beside = has_beside action row k in
      let below = use_there action.nests k b (at_member nest.actions j b turn.there) in
      turn_told nest row k beside nest.actions j b
      (implied (is_entered action k) (tells_alternates plan table nest row k beside nest.actions)
      (subst (λ z. tells_use plan table action row z nest ≡ true) (zero-add k)
      (use_of action row 0 k action.nests (all a).uses below)) turn.entered) turn.there turn.earlier
