-- One entry more: how what is kept of the ends of places goes on standing for the journal.
use Rattle.std.proofs.Common.{◌≡◌, ◌∙◌, ℕ, ◌+◌, ◌-◌, ◌==◌, ◌<◌, ◌≤◌, Bool, true, false, not, ◌&&◌, ◌||◌, List, [], ◌∷◌, ◌++◌, Option, Some, None, length, take, slice_get, slice_set, get_or-set_same, get_or-set_other, length-set, refl, sym, ap, ap₂, subst, arith, inl, inr}
use Rattle.std.specs.List.{list_any}
use Rattle.std.proofs.lemmas.List.{take_more}
use Rattle.std.proofs.lemmas.List.Folds.{list_any-append}
use Rattle.std.proofs.lemmas.Bool.{cases_Bool, eqb-true, eq-eqb, false≢true, both_ways, false_from_ne_true}
use Rattle.cover_table.specs.Cover.{has_bit}
use Rattle.cover_table.proofs.Bits.{had_in_zero}
use Rattle.caa_base.specs.Written.Limits.{most_roles}
use Rattle.caa_base.specs.Written.Lists.{member}
use Rattle.caa_base.specs.declared.written.entry.Entry.{Entry}
use Rattle.caa_base.specs.declared.written.entry.Kind.{Kind}
use Rattle.caa_base.specs.declared.written.entry.Kind.TheVariants as kind
use Rattle.caa_base.specs.declared.written.entry.Verdict.{Verdict}
use Rattle.place_plan.specs.Plans.PlanValue.{Plan}
use Rattle.place_plan.specs.Plans.Places.{roles_of, objects_of, interface_of}
use Rattle.place_plan.specs.RulesOfJournals.Entries.{is_by, has, newest}
use Rattle.place_plan.specs.RulesOfJournals.Whereabouts.{is_undoing}
use Rattle.place_plan.specs.RulesOfJournals.Raising.{is_raised}
use Rattle.place_plan.specs.RulesOfJournals.Objects.{is_tried, has_failed}
use Rattle.place_plan.specs.RulesOfJournals.Roles.{has_given, verdict_of, verdict_at, is_undo, has_aborted}
use Rattle.place_plan.proofs.OnPlans.Subtrees.{get_is}
use Rattle.place_plan.proofs.OnJournals.EntryKinds.{of_kind}
use Rattle.action_endings.specs.declared.said.Said.TheVariants as short
use Rattle.action_endings.specs.declared.ending.Ending.{Ending}
use Rattle.action_endings.proofs.PlanNumbers.{indices_apart}
use Rattle.action_endings.specs.inner.KeptEndings.{no_ending, at, role_number, SignalsBelow, verdict_said, verdict_kept, name_kept, tried_kept, asks_for_undo, exception_named, KeepsVerdicts, KeepsRest, StandsBut, StandsFor}
use Rattle.action_endings.specs.inner.ChangedEndings.{ChangesAt, Gives, GivesUp, marked, cleared, turned_back, tried_once_more, is_apart, RaisesFirst, NoneCounts, Says, Aborts, TurnsBack, Restores, LeavesEndings}

-- ---- tests over lists

pub any_same : (f g : ℕ → Bool) (xs : List ℕ) → ((x : ℕ) → f x ≡ g x) → list_any f xs ≡ list_any g xs
any_same f g [] h = refl
any_same f g (x ∷ xs) h = ap₂ (λ a b. a || b) (h x) (any_same f g xs h)

pub any_none : (f : ℕ → Bool) (xs : List ℕ) → ((x : ℕ) → f x ≡ false) → list_any f xs ≡ false
any_none f [] h = refl
any_none f (x ∷ xs) h = ap₂ (λ a b. a || b) (h x) (any_none f xs h)

-- a test that changes at one number alone, where it failed
any_updated : (f g : ℕ → Bool) (t : ℕ) (b : Bool) (xs : List ℕ) → f t ≡ false → g t ≡ b → ((s : ℕ) → (t == s) ≡ false → g s ≡ f s)
    → list_any g xs ≡ (list_any f xs || (member t xs && b))
any_updated f g t b [] w v others = refl
any_updated f g t b (x ∷ xs) w v others = elim (cases_Bool (x == t)) [
  | inl same ↦
      let is : x ≡ t = eqb-true x t same in
      let gx : g x ≡ b = ap g is ∙ v in
      let fx : f x ≡ false = ap f is ∙ w in
      rw (gx, fx, same, any_updated f g t b xs w v others) (here b (list_any f xs) (member t xs))
  | inr apart ↦
      let off : (t == x) ≡ false = false_from_ne_true _ (λ e. both_ways _ apart (eq-eqb x t (sym (eqb-true t x e)))) in
      rw (others x off, apart, any_updated f g t b xs w v others) (there (f x) (list_any f xs) (member t xs && b))
]
  where
    here : (b l m : Bool) → (b || (l || (m && b))) ≡ (l || b)
    here true true m = refl
    here true false m = refl
    here false true true = refl
    here false true false = refl
    here false false true = refl
    here false false false = refl

    there : (f l m : Bool) → (f || (l || m)) ≡ ((f || l) || m)
    there true l m = refl
    there false l m = refl

pub self : (p : ℕ) → (p == p) ≡ true
self p = eq-eqb p p refl

-- ---- what an entry leaves

-- the entry leaves who has given up in p, and how far its undo has come
record LeavesRest (plan : Plan) (past : List Entry) (e : Entry) (p : ℕ) : Type 0 where
  pub aborted : (t : ℕ) → has_aborted (e ∷ past) p t ≡ has_aborted past p t
  pub some_aborted : has kind.Abort (e ∷ past) p ≡ has kind.Abort past p
  pub last : (t : ℕ) → newest (is_by kind.Abort p t) (e ∷ past) ≡ newest (is_by kind.Abort p t) past
  pub undoing : is_undoing (e ∷ past) p ≡ is_undoing past p
  pub tried : (o : ℕ) → is_tried (e ∷ past) p o ≡ is_tried past p o
  pub failed : has_failed (e ∷ past) p ≡ has_failed past p

rest_left : (plan : Plan) (past : List Entry) (e : Entry) (p : ℕ) (row : Ending) (b : Bool) → LeavesRest plan past e p
    → b ≡ is_raised plan (e ∷ past) p → KeepsRest plan past p row → KeepsRest plan (e ∷ past) p (record row { raised = b })
rest_left plan past e p row b l raised was = record {
  room_to_say = was.room_to_say;
  room_to_name = was.room_to_name;
  raised = raised;
  aborted = λ t. was.aborted t ∙ sym (l.aborted t);
  some_aborted = was.some_aborted ∙ sym l.some_aborted;
  named = λ t x h. was.named t x (sym (l.last t) ∙ h);
  undoing = was.undoing ∙ sym l.undoing;
  few = was.few;
  tried = λ o. l.tried o ∙ was.tried o;
  failed = was.failed ∙ sym l.failed;
}

-- the entry leaves the verdicts of p
record LeavesVerdicts (plan : Plan) (past : List Entry) (e : Entry) (p : ℕ) : Type 0 where
  pub counts : (t : ℕ) → has_given plan (e ∷ past) p t ≡ has_given plan past p t
  pub says : (t : ℕ) → verdict_of (e ∷ past) p t ≡ verdict_of past p t

verdicts_left : (plan : Plan) (past : List Entry) (e : Entry) (p : ℕ) (row : Ending) → LeavesVerdicts plan past e p
    → KeepsVerdicts plan past p row → KeepsVerdicts plan (e ∷ past) p row
verdicts_left plan past e p row l was = record {
  given = λ t. was.given t ∙ sym (l.counts t);
  said = λ t counted. l.says t ∙ was.said t (sym (l.counts t) ∙ counted);
  undo = was.undo ∙ any_same (asks_for_undo plan past p) (asks_for_undo plan (e ∷ past) p) (roles_of plan p)
      (λ t. ap₂ (λ a v. a && is_undo v) (sym (l.counts t)) (sym (l.says t)));
  known = was.known;
}

-- the entry leaves all of q
record Leaves (plan : Plan) (past : List Entry) (e : Entry) (q : ℕ) : Type 0 where
  pub verdicts : LeavesVerdicts plan past e q
  pub rest : LeavesRest plan past e q
  pub raised : is_raised plan (e ∷ past) q ≡ is_raised plan past q

-- where p goes on standing, and the entry leaves all other places, all go on standing
all_stand : (plan : Plan) (past : List Entry) (e : Entry) (p : ℕ) (old new : List Ending) → StandsFor plan past old → length new ≡ length old
    → ((q : ℕ) → (p == q) ≡ false → at new q ≡ at old q) → ((q : ℕ) → (p == q) ≡ false → Leaves plan past e q)
    → KeepsVerdicts plan (e ∷ past) p (at new p) → KeepsRest plan (e ∷ past) p (at new p) → StandsFor plan (e ∷ past) new
all_stand plan past e p old new s as_many apart leaves verdicts rest = record {
  as_many = as_many ∙ s.as_many;
  verdicts = λ q. elim (cases_Bool (p == q)) [
    | inl same ↦ subst (λ r. KeepsVerdicts plan (e ∷ past) r (at new r)) (eqb-true p q same) verdicts
    | inr other ↦
        subst (KeepsVerdicts plan (e ∷ past) q) (sym (apart q other))
        (verdicts_left plan past e q (at old q) (leaves q other).verdicts (s.verdicts q))
  ];
  rest = λ q. elim (cases_Bool (p == q)) [
    | inl same ↦ subst (λ r. KeepsRest plan (e ∷ past) r (at new r)) (eqb-true p q same) rest
    | inr other ↦
        subst (KeepsRest plan (e ∷ past) q) (sym (apart q other))
        (rest_left plan past e q (at old q) (at old q).raised (leaves q other).rest
        ((s.rest q).raised ∙ sym (leaves q other).raised) (s.rest q))
  ];
}

-- a write of one row
pub set_here : (old : List Ending) (p : ℕ) (row : Ending) → p < length old → at (slice_set old p row) p ≡ row
set_here old p row l = get_or-set_same old p row no_ending l

pub set_apart : (old : List Ending) (p q : ℕ) (row : Ending) → (p == q) ≡ false → at (slice_set old p row) q ≡ at old q
set_apart old p q row other = get_or-set_other old p q row no_ending (λ w. both_ways _ other (eq-eqb p q (sym w)))

-- ---- entries that say, undo and restore nothing

apart_rest : (plan : Plan) (past : List Entry) (k : Kind) (e : Entry) (p : ℕ) → is_apart (of_kind k e) ≡ true
    → LeavesRest plan past (of_kind k e) p
apart_rest plan past kind.Verdict e p h = absurd (false≢true h)
apart_rest plan past kind.Abort e p h = absurd (false≢true h)
apart_rest plan past kind.Undo e p h = absurd (false≢true h)
apart_rest plan past kind.Restore e p h = absurd (false≢true h)
apart_rest plan past _ e p h = record {
  aborted = λ t. refl;
  some_aborted = refl;
  last = λ t. refl;
  undoing = refl;
  tried = λ o. refl;
  failed = refl;
}

apart_says : (past : List Entry) (k : Kind) (e : Entry) (p t : ℕ) → is_apart (of_kind k e) ≡ true
    → verdict_of (of_kind k e ∷ past) p t ≡ verdict_of past p t
apart_says past kind.Verdict e p t h = absurd (false≢true h)
apart_says past _ e p t h = refl

-- something is raised in p for the first time
pub marked_keeps : (plan : Plan) (past : List Entry) (e : Entry) (p : ℕ) (old : List Ending) → p < length old → StandsFor plan past old
    → RaisesFirst plan past e p → StandsBut plan (e ∷ past) p (slice_set old p (marked (at old p)))
marked_keeps plan past e p old l s r = record {
  as_many = length-set old p _ ∙ s.as_many;
  verdicts = λ q other. subst (KeepsVerdicts plan (e ∷ past) q) (sym (set_apart old p q _ other))
      (verdicts_left plan past e q (at old q)
      (record { counts = λ t. r.counts q t other; says = λ t. apart_says past e.kind e q t r.apart })
      (s.verdicts q));
  rest = λ q. elim (cases_Bool (p == q)) [
    | inl same ↦
        let here : at (slice_set old p (marked (at old p))) q ≡ marked (at old q) =
        subst (λ x. at (slice_set old p (marked (at old p))) x ≡ marked (at old x)) (eqb-true p q same) (set_here old p _ l) in
        subst (KeepsRest plan (e ∷ past) q) (sym here)
        (rest_left plan past e q (at old q) true (apart_rest plan past e.kind e q r.apart) (sym (r.raises q ∙ rw same refl)) (s.rest q))
    | inr other ↦
        subst (KeepsRest plan (e ∷ past) q) (sym (set_apart old p q _ other))
        (rest_left plan past e q (at old q) (at old q).raised (apart_rest plan past e.kind e q r.apart)
        ((s.rest q).raised ∙ sym (r.raises q ∙ rw other refl)) (s.rest q))
  ];
}

-- then the verdicts of p are dropped
pub cleared_keeps : (plan : Plan) (past : List Entry) (p : ℕ) (old : List Ending) → p < length old → StandsBut plan past p old
    → NoneCounts plan past p → StandsFor plan past (slice_set old p (cleared (at old p)))
cleared_keeps plan past p old l s none = record {
  as_many = length-set old p _ ∙ s.as_many;
  verdicts = λ q. elim (cases_Bool (p == q)) [
    | inl same ↦
        subst (λ r. KeepsVerdicts plan past r (at (slice_set old p (cleared (at old p))) r)) (eqb-true p q same)
        (subst (KeepsVerdicts plan past p) (sym (set_here old p _ l)) dropped)
    | inr other ↦ subst (KeepsVerdicts plan past q) (sym (set_apart old p q _ other)) (s.verdicts q other)
  ];
  rest = λ q. elim (cases_Bool (p == q)) [
    | inl same ↦
        subst (λ r. KeepsRest plan past r (at (slice_set old p (cleared (at old p))) r)) (eqb-true p q same)
        (subst (KeepsRest plan past p) (sym (set_here old p _ l)) still)
    | inr other ↦ subst (KeepsRest plan past q) (sym (set_apart old p q _ other)) (s.rest q)
  ];
}
  where
    dropped : KeepsVerdicts plan past p (cleared (at old p))
    dropped = record {
      given = λ t. had_in_zero t ∙ sym (none t);
      said = λ t counted. absurd (both_ways _ (none t) counted);
      undo = sym (any_none (asks_for_undo plan past p) (roles_of plan p) (λ t. ap (λ b. b && is_undo (verdict_of past p t)) (none t)));
      known = λ t counted. absurd (both_ways _ (had_in_zero t) counted);
    }

    still : KeepsRest plan past p (cleared (at old p))
    still =
        let was = s.rest p in
        record {
          room_to_say = was.room_to_say;
          room_to_name = was.room_to_name;
          raised = was.raised;
          aborted = was.aborted;
          some_aborted = was.some_aborted;
          named = was.named;
          undoing = was.undoing;
          few = was.few;
          tried = was.tried;
          failed = was.failed;
        }

-- an entry that changes nothing of what is kept
pub others_keep : (plan : Plan) (past : List Entry) (e : Entry) (endings : List Ending) → LeavesEndings plan past e
    → StandsFor plan past endings → StandsFor plan (e ∷ past) endings
others_keep plan past e endings l s = record {
  as_many = s.as_many;
  verdicts = λ q.
      verdicts_left plan past e q (at endings q)
      (record { counts = λ t. l.counts q t; says = λ t. apart_says past e.kind e q t l.apart }) (s.verdicts q);
  rest = λ q.
      rest_left plan past e q (at endings q) (at endings q).raised (apart_rest plan past e.kind e q l.apart)
      ((s.rest q).raised ∙ sym (l.raises q)) (s.rest q);
}

-- ---- verdicts

module _ (plan : Plan) (past : List Entry) (e : Entry) (p t : ℕ) where
  -- e as a verdict of t in p, and as its abort
  abbrev spoken : Entry
  spoken = record e { kind = kind.Verdict; place = p; by = t }

  abbrev given_up : Entry
  given_up = record e { kind = kind.Abort; place = p; by = t }

  spoken_is : e.kind ≡ kind.Verdict → e.place ≡ p → e.by ≡ t → spoken ≡ e
  spoken_is k h o = ap₂ (λ k q. record e { kind = k; place = q; by = t }) (sym k) (sym h) ∙ ap (λ u. record e { by = u }) (sym o)

  given_up_is : e.kind ≡ kind.Abort → e.place ≡ p → e.by ≡ t → given_up ≡ e
  given_up_is k h o = ap₂ (λ k q. record e { kind = k; place = q; by = t }) (sym k) (sym h) ∙ ap (λ u. record e { by = u }) (sym o)

  spoken_rest : (q : ℕ) → LeavesRest plan past spoken q
  spoken_rest q = record {
    aborted = λ s. refl;
    some_aborted = refl;
    last = λ s. refl;
    undoing = refl;
    tried = λ o. refl;
    failed = refl;
  }

  spoken_leaves : (q : ℕ) → (p == q) ≡ false → Leaves plan past spoken q
  spoken_leaves q other = record {
    verdicts = record { counts = λ s. rw other refl; says = λ s. rw other refl };
    rest = spoken_rest q;
    raised = refl;
  }

  -- who hasn't given it keeps its verdict
  unspoken : (s : ℕ) → (t == s) ≡ false → has_given plan (spoken ∷ past) p s ≡ has_given plan past p s
  unspoken s other = rw (self p, other) refl

  unsaid : (s : ℕ) → (t == s) ≡ false → verdict_of (spoken ∷ past) p s ≡ verdict_of past p s
  unsaid s other = rw (self p, other) refl

  said_now : verdict_of (spoken ∷ past) p t ≡ Some (verdict_at spoken)
  said_now = rw (self p, self t) refl

  module _ (v : Verdict) (old new : Ending) (role : member t (roles_of plan p) ≡ true) (low : role_number plan p t < most_roles)
      (g : Gives (role_number plan p t) t v old new) (says : verdict_at spoken ≡ v)
      (counts : has_given plan (spoken ∷ past) p t ≡ true) where
    -- what is kept of t then, and of the others
    own_verdict : length old.said ≡ most_roles → verdict_kept plan p t new ≡ v
    own_verdict long =
        ap (λ (x : Ending). verdict_kept plan p t x) g.rest
        ∙ (ap verdict_said (get_or-set_same old.said (role_number plan p t) g.short short.Done
        (subst (λ n. role_number plan p t < n) (sym long) low)) ∙ g.says)

    other_verdict : (s : ℕ) → (t == s) ≡ false → verdict_kept plan p s new ≡ verdict_kept plan p s old
    other_verdict s other =
        ap (λ (x : Ending). verdict_kept plan p s x) g.rest
        ∙ ap verdict_said (get_or-set_other old.said (role_number plan p t) (role_number plan p s) g.short short.Done
        (indices_apart (roles_of plan p) t s role other))

    spoken_verdicts : has_bit old.given t ≡ false → length old.said ≡ most_roles → SignalsBelow (interface_of plan p).count v
        → KeepsVerdicts plan past p old → KeepsVerdicts plan (spoken ∷ past) p new
    spoken_verdicts fresh long fits was = record {
      given = λ s. elim (cases_Bool (t == s)) [
        | inl same ↦
            let mine : has_given plan (spoken ∷ past) p s ≡ true =
            subst (λ u. has_given plan (spoken ∷ past) p u ≡ true) (eqb-true t s same) counts in
            g.given s ∙ (ap (λ b. b || has_bit old.given s) same ∙ sym mine)
        | inr other ↦ g.given s ∙ (ap (λ b. b || has_bit old.given s) other ∙ (was.given s ∙ sym (unspoken s other)))
      ];
      said = λ s counted. elim (cases_Bool (t == s)) [
        | inl same ↦
            subst (λ u. verdict_of (spoken ∷ past) p u ≡ Some (verdict_kept plan p u new)) (eqb-true t s same)
            (said_now ∙ ap Some (says ∙ sym (own_verdict long)))
        | inr other ↦
            unsaid s other ∙ (was.said s (sym (unspoken s other) ∙ counted) ∙ ap Some (sym (other_verdict s other)))
      ];
      undo =
          let before : asks_for_undo plan past p t ≡ false =
          ap (λ b. b && is_undo (verdict_of past p t)) (sym (was.given t) ∙ fresh) in
          let now : asks_for_undo plan (spoken ∷ past) p t ≡ is_undo (Some v) =
          ap₂ (λ b o. b && is_undo o) counts (said_now ∙ ap Some says) in
          let all =
          any_updated (asks_for_undo plan past p) (asks_for_undo plan (spoken ∷ past) p) t (is_undo (Some v))
          (roles_of plan p) before now
          (λ s other. ap₂ (λ b o. b && is_undo o) (unspoken s other) (unsaid s other)) in
          ap (λ (x : Ending). x.undo) g.rest ∙ (ap (λ b. b || is_undo (Some v)) was.undo
          ∙ sym (all ∙ ap (λ b. list_any (asks_for_undo plan past p) (roles_of plan p) || (b && is_undo (Some v))) role));
      known = λ s counted. elim (cases_Bool (t == s)) [
        | inl same ↦
            subst (λ u. SignalsBelow (interface_of plan p).count (verdict_kept plan p u new)) (eqb-true t s same)
            (subst (SignalsBelow (interface_of plan p).count) (sym (own_verdict long)) fits)
        | inr other ↦
            subst (SignalsBelow (interface_of plan p).count) (sym (other_verdict s other))
            (was.known s (sym (g.given s ∙ ap (λ b. b || has_bit old.given s) other) ∙ counted))
      ];
    }

    spoken_here : KeepsRest plan past p old → KeepsRest plan (spoken ∷ past) p new
    spoken_here was =
        let r = rest_left plan past spoken p old old.raised (spoken_rest p) was.raised was in
        subst (KeepsRest plan (spoken ∷ past) p) (sym g.rest) (record {
          room_to_say = length-set old.said (role_number plan p t) g.short ∙ was.room_to_say;
          room_to_name = r.room_to_name;
          raised = r.raised;
          aborted = r.aborted;
          some_aborted = r.some_aborted;
          named = r.named;
          undoing = r.undoing;
          few = r.few;
          tried = r.tried;
          failed = r.failed;
        })

  -- ---- aborts

  given_up_verdicts : (q : ℕ) → LeavesVerdicts plan past given_up q
  given_up_verdicts q = record { counts = λ s. refl; says = λ s. refl }

  given_up_leaves : (q : ℕ) → (p == q) ≡ false → Leaves plan past given_up q
  given_up_leaves q other = record {
    verdicts = given_up_verdicts q;
    rest = record {
      aborted = λ s. rw other refl;
      some_aborted = rw other refl;
      last = λ s. rw other refl;
      undoing = refl;
      tried = λ o. refl;
      failed = refl;
    };
    raised = refl;
  }

  named_now : (s : ℕ) → (t == s) ≡ true → newest (is_by kind.Abort p s) (given_up ∷ past) ≡ Some given_up
  named_now s same = rw (self p, same) refl

  unnamed : (s : ℕ) → (t == s) ≡ false → newest (is_by kind.Abort p s) (given_up ∷ past) ≡ newest (is_by kind.Abort p s) past
  unnamed s other = rw (self p, other) refl

  has_given_up : (s : ℕ) → has_aborted (given_up ∷ past) p s ≡ ((t == s) || has_aborted past p s)
  has_given_up s = rw (self p) refl

  some_given_up : has kind.Abort (given_up ∷ past) p ≡ true
  some_given_up = rw (self p) refl

  module _ (name : Option ℕ) (old new : Ending) (role : member t (roles_of plan p) ≡ true)
      (low : role_number plan p t < most_roles) (g : GivesUp (role_number plan p t) t name old new)
      (names : exception_named given_up ≡ name) where
    own_name : length old.named ≡ most_roles → name_kept plan p t new ≡ name
    own_name long =
        ap (λ (x : Ending). name_kept plan p t x) g.rest
        ∙ get_or-set_same old.named (role_number plan p t) name None
        (subst (λ n. role_number plan p t < n) (sym long) low)

    other_name : (s : ℕ) → (t == s) ≡ false → name_kept plan p s new ≡ name_kept plan p s old
    other_name s other =
        ap (λ (x : Ending). name_kept plan p s x) g.rest
        ∙ get_or-set_other old.named (role_number plan p t) (role_number plan p s) name None
        (indices_apart (roles_of plan p) t s role other)

    given_up_said : KeepsVerdicts plan past p old → KeepsVerdicts plan (given_up ∷ past) p new
    given_up_said was =
        let v = verdicts_left plan past given_up p old (given_up_verdicts p) was in
        subst (KeepsVerdicts plan (given_up ∷ past) p) (sym g.rest)
        (record { given = v.given; said = v.said; undo = v.undo; known = v.known })

    not_none : (new.aborted == 0) ≡ false
    not_none = false_from_ne_true _ (λ none.
        let is : new.aborted ≡ 0 = eqb-true new.aborted 0 none in
        let had : has_bit new.aborted t ≡ true = g.aborted t ∙ ap (λ b. b || has_bit old.aborted t) (self t) in
        both_ways _ (had_in_zero t) (subst (λ w. has_bit w t ≡ true) is had))

    given_up_here : KeepsRest plan past p old → KeepsRest plan (given_up ∷ past) p new
    given_up_here was = record {
      room_to_say = ap (λ (x : Ending). length x.said) g.rest ∙ was.room_to_say;
      room_to_name =
          ap (λ (x : Ending). length x.named) g.rest
          ∙ (length-set old.named (role_number plan p t) name ∙ was.room_to_name);
      raised = ap (λ (x : Ending). x.raised) g.rest ∙ was.raised;
      aborted = λ s. g.aborted s ∙ (ap (λ b. (t == s) || b) (was.aborted s) ∙ sym (has_given_up s));
      some_aborted = ap not not_none ∙ sym some_given_up;
      named = λ s x h. elim (cases_Bool (t == s)) [
        | inl same ↦
            let is : given_up ≡ x = let both : Some given_up ≡ Some x = sym (named_now s same) ∙ h in cc in
            subst (λ u. exception_named x ≡ name_kept plan p u new) (eqb-true t s same)
            (ap exception_named (sym is) ∙ (names ∙ sym (own_name was.room_to_name)))
        | inr other ↦ was.named s x (sym (unnamed s other) ∙ h) ∙ sym (other_name s other)
      ];
      undoing = ap (λ (x : Ending). x.undoing) g.rest ∙ was.undoing;
      few = subst (λ n. n ≤ length (objects_of plan p)) (sym (ap (λ (x : Ending). x.untried) g.rest)) was.few;
      tried = λ o. was.tried o ∙ ap (λ n. member o (take (length (objects_of plan p) - n) (objects_of plan p)))
          (sym (ap (λ (x : Ending). x.untried) g.rest));
      failed = ap (λ (x : Ending). x.failed) g.rest ∙ was.failed;
    }

-- t gives the verdict v in p
pub said_keeps : (plan : Plan) (past : List Entry) (e : Entry) (p t : ℕ) (v : Verdict) (old new : List Ending)
    → has_bit (at old p).given t ≡ false → member t (roles_of plan p) ≡ true → role_number plan p t < most_roles
    → SignalsBelow (interface_of plan p).count v → StandsFor plan past old → Says plan past e p t v
    → ChangesAt (Gives (role_number plan p t) t v) p old new → StandsFor plan (e ∷ past) new
said_keeps plan past e p t v old new fresh role low fits s w c =
    let is = spoken_is plan past e p t w.gives w.here w.own in
    let counts : has_given plan (spoken plan past e p t ∷ past) p t ≡ true =
    subst (λ x. has_given plan (x ∷ past) p t ≡ true) (sym is) w.counts in
    let says : verdict_at (spoken plan past e p t) ≡ v = w.says in
    subst (λ x. StandsFor plan (x ∷ past) new) is
    (all_stand plan past (spoken plan past e p t) p old new s c.as_many c.apart (spoken_leaves plan past e p t)
    (spoken_verdicts plan past e p t v (at old p) (at new p) role low c.here says counts fresh (s.rest p).room_to_say fits (s.verdicts p))
    (spoken_here plan past e p t v (at old p) (at new p) role low c.here says counts (s.rest p)))

-- t gives up in p
pub given_up_keeps : (plan : Plan) (past : List Entry) (e : Entry) (p t : ℕ) (name : Option ℕ) (old new : List Ending)
    → member t (roles_of plan p) ≡ true → role_number plan p t < most_roles → StandsFor plan past old → Aborts e p t name
    → ChangesAt (GivesUp (role_number plan p t) t name) p old new → StandsFor plan (e ∷ past) new
given_up_keeps plan past e p t name old new role low s w c =
    subst (λ x. StandsFor plan (x ∷ past) new) (given_up_is plan past e p t w.aborts w.here w.own)
    (all_stand plan past (given_up plan past e p t) p old new s c.as_many c.apart (given_up_leaves plan past e p t)
    (given_up_said plan past e p t name (at old p) (at new p) role low c.here w.names (s.verdicts p))
    (given_up_here plan past e p t name (at old p) (at new p) role low c.here w.names (s.rest p)))

-- ---- undo

-- what was put in one place of a table, and nothing else
pub changes_at : (Change : Ending → Ending → Type 0) (p : ℕ) (old new : List Ending) (row : Ending) → p < length old
    → new ≡ slice_set old p row → Change (at old p) row → ChangesAt Change p old new
changes_at Change p old new row l is change = record {
  as_many = ap length is ∙ length-set old p row;
  here = subst (Change (at old p)) (sym (ap (λ rows. at rows p) is ∙ set_here old p row l)) change;
  apart = λ q other. ap (λ rows. at rows q) is ∙ set_apart old p q row other;
}

module _ (plan : Plan) (past : List Entry) (e : Entry) (p : ℕ) where
  -- e as the undo of p, and as a restore there
  abbrev back : Entry
  back = record e { kind = kind.Undo; place = p }

  abbrev restore : Entry
  restore = record e { kind = kind.Restore; place = p }

  undo_is : e.kind ≡ kind.Undo → e.place ≡ p → back ≡ e
  undo_is k h = ap₂ (λ k q. record e { kind = k; place = q }) (sym k) (sym h)

  restore_is : e.kind ≡ kind.Restore → e.place ≡ p → restore ≡ e
  restore_is k h = ap₂ (λ k q. record e { kind = k; place = q }) (sym k) (sym h)

  undo_leaves : (q : ℕ) → (p == q) ≡ false → Leaves plan past back q
  undo_leaves q other = record {
    verdicts = record { counts = λ s. refl; says = λ s. refl };
    rest = record {
      aborted = λ s. refl;
      some_aborted = refl;
      last = λ s. refl;
      undoing = rw other refl;
      tried = λ o. refl;
      failed = refl;
    };
    raised = refl;
  }

  undo_verdicts : (row : Ending) → KeepsVerdicts plan past p row → KeepsVerdicts plan (back ∷ past) p (turned_back row)
  undo_verdicts row was = record { given = was.given; said = was.said; undo = was.undo; known = was.known }

  undo_here : (row : Ending) → KeepsRest plan past p row → KeepsRest plan (back ∷ past) p (turned_back row)
  undo_here row was = record {
    room_to_say = was.room_to_say;
    room_to_name = was.room_to_name;
    raised = was.raised;
    aborted = was.aborted;
    some_aborted = was.some_aborted;
    named = was.named;
    undoing = let now : is_undoing (back ∷ past) p ≡ true = rw (self p) refl in sym now;
    few = was.few;
    tried = was.tried;
    failed = was.failed;
  }

  restore_leaves : (q : ℕ) → (p == q) ≡ false → Leaves plan past restore q
  restore_leaves q other = record {
    verdicts = record { counts = λ s. refl; says = λ s. refl };
    rest = record {
      aborted = λ s. refl;
      some_aborted = refl;
      last = λ s. refl;
      undoing = refl;
      tried = λ o. rw other refl;
      failed = rw other refl;
    };
    raised = refl;
  }

  restore_verdicts : (row : Ending) (well : Bool) → KeepsVerdicts plan past p row
      → KeepsVerdicts plan (restore ∷ past) p (tried_once_more well row)
  restore_verdicts row well was = record { given = was.given; said = was.said; undo = was.undo; known = was.known }

  tried_now : (o : ℕ) → is_tried (restore ∷ past) p o ≡ ((e.arg == o) || is_tried past p o)
  tried_now o = rw (self p) refl

  failed_now : has_failed (restore ∷ past) p ≡ ((e.mark == 1) || has_failed past p)
  failed_now = rw (self p) refl

  -- the objects that have a restore then
  one_tried_more : (row : Ending) → 0 < row.untried → row.untried ≤ length (objects_of plan p)
      → slice_get (objects_of plan p) (tried_kept plan p row) ≡ Some e.arg → (well : Bool) (o : ℕ)
      → member o (take (tried_kept plan p (tried_once_more well row)) (objects_of plan p))
      ≡ ((e.arg == o) || member o (take (tried_kept plan p row) (objects_of plan p)))
  one_tried_more row some few next well o =
      let objects = objects_of plan p in
      let n = length objects - row.untried in
      let is = get_is objects n e.arg 0 next in
      let more : length objects - (row.untried - 1) ≡ n + 1 = omega arith in
      let front : take (length objects - (row.untried - 1)) objects ≡ take n objects ++ e.arg ∷ [] =
      ap (λ k. take k objects) more ∙ (take_more objects n 0 is.1 ∙ ap (λ x. take n objects ++ x ∷ []) is.0) in
      ap (member o) front ∙ (list_any-append (λ x. x == o) (take n objects) (e.arg ∷ [])
      ∙ turned (member o (take n objects)) (e.arg == o))
    where
      turned : (a b : Bool) → (a || (b || false)) ≡ (b || a)
      turned true true = refl
      turned true false = refl
      turned false true = refl
      turned false false = refl

  restore_here : (row : Ending) (well : Bool) → 0 < row.untried
      → slice_get (objects_of plan p) (tried_kept plan p row) ≡ Some e.arg → (e.mark == 1) ≡ not well
      → KeepsRest plan past p row → KeepsRest plan (restore ∷ past) p (tried_once_more well row)
  restore_here row well some next mark was = record {
    room_to_say = was.room_to_say;
    room_to_name = was.room_to_name;
    raised = was.raised;
    aborted = was.aborted;
    some_aborted = was.some_aborted;
    named = was.named;
    undoing = was.undoing;
    few = let low = was.few in omega arith;
    tried = λ o.
        tried_now o ∙ (ap (λ b. (e.arg == o) || b) (was.tried o) ∙ sym (one_tried_more row some was.few next well o));
    failed =
        ap (λ b. b || not well) was.failed
        ∙ (turned (has_failed past p) (not well) ∙ sym (failed_now ∙ ap (λ b. b || has_failed past p) mark));
  }
    where
      turned : (a b : Bool) → (a || b) ≡ (b || a)
      turned true true = refl
      turned true false = refl
      turned false true = refl
      turned false false = refl

-- p is to be undone
pub turned_back_keeps : (plan : Plan) (past : List Entry) (e : Entry) (p : ℕ) (old : List Ending) → p < length old → StandsFor plan past old
    → TurnsBack e p → StandsFor plan (e ∷ past) (slice_set old p (turned_back (at old p)))
turned_back_keeps plan past e p old l s w =
    subst (λ x. StandsFor plan (x ∷ past) (slice_set old p (turned_back (at old p)))) (undo_is plan past e p w.undoes w.here)
    (all_stand plan past (back plan past e p) p old _ s (length-set old p _) (λ q other. set_apart old p q _ other)
    (undo_leaves plan past e p)
    (subst (KeepsVerdicts plan (back plan past e p ∷ past) p) (sym (set_here old p _ l))
    (undo_verdicts plan past e p (at old p) (s.verdicts p)))
    (subst (KeepsRest plan (back plan past e p ∷ past) p) (sym (set_here old p _ l)) (undo_here plan past e p (at old p) (s.rest p))))

-- the next object of p gets its restore
pub tried_keeps : (plan : Plan) (past : List Entry) (e : Entry) (p : ℕ) (well : Bool) (old : List Ending) → p < length old
    → 0 < (at old p).untried → StandsFor plan past old → Restores plan old e p well
    → StandsFor plan (e ∷ past) (slice_set old p (tried_once_more well (at old p)))
tried_keeps plan past e p well old l some s w =
    subst (λ x. StandsFor plan (x ∷ past) (slice_set old p (tried_once_more well (at old p)))) (restore_is plan past e p w.restores w.here)
    (all_stand plan past (restore plan past e p) p old _ s (length-set old p _) (λ q other. set_apart old p q _ other)
    (restore_leaves plan past e p)
    (subst (KeepsVerdicts plan (restore plan past e p ∷ past) p) (sym (set_here old p _ l))
    (restore_verdicts plan past e p (at old p) well (s.verdicts p)))
    (subst (KeepsRest plan (restore plan past e p ∷ past) p) (sym (set_here old p _ l))
    (restore_here plan past e p (at old p) well some w.next w.mark (s.rest p))))
