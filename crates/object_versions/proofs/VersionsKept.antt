-- One entry more: how what is kept of the objects goes on standing for the journal.
use Rattle.std.proofs.Common.{◌≡◌, ◌∙◌, ℕ, ℤ, ◌+◌, ◌==◌, ◌<◌, Bool, true, false, not, cond, ◌&&◌, ◌||◌, List, [], ◌∷◌, ◌++◌, Some, None, length, slice_set, get_or-set_same, get_or-set_other, length-set, refl, sym, ap, ap₂, subst, arith, inl, inr}
use Rattle.std.proofs.Math.ListN.{get_or-append}
use Rattle.std.proofs.Math.Seq.{get_or-append_seam}
use Rattle.std.proofs.lemmas.Bool.{cases_Bool, cases_lt, eqb-true, eq-eqb, false≢true, both_ways}
use Rattle.caa_base.specs.Written.Limits.{most_depth}
use Rattle.caa_base.specs.Written.Lists.{member}
use Rattle.caa_base.specs.declared.written.entry.Entry.{Entry}
use Rattle.caa_base.specs.declared.written.entry.Kind.{Kind}
use Rattle.caa_base.specs.declared.written.entry.Kind.TheVariants as kind
use Rattle.place_plan.specs.Plans.PlanValue.{Plan}
use Rattle.place_plan.specs.Plans.Places.{parent, objects_of, uses, initial_of}
use Rattle.place_plan.specs.RulesOfJournals.Entries.{is_of}
use Rattle.place_plan.specs.RulesOfJournals.Whereabouts.{is_live}
use Rattle.place_plan.specs.RulesOfJournals.Objects.{holder_of, value_of, value_outside, before_start}
use Rattle.place_plan.specs.RulesOfJournals.Journals.{is_put}
use Rattle.place_plan.proofs.OnJournals.EntryKinds.{of_kind}
use Rattle.object_versions.specs.declared.version.Version.{Version}
use Rattle.object_versions.specs.inner.KeptVersions.{nothing_kept, at, depth, saved_at, IsVersionOf, StandsFor}
use Rattle.object_versions.specs.inner.ChangedVersions.{taken, held_by, valued, ChangesEach, Takes, GivesBack, Puts}

-- ---- choices by a test

first_of_two : {A : Type 0} (b : Bool) (x y : A) → b ≡ true → cond b x y ≡ x
first_of_two true x y h = refl
first_of_two false x y h = absurd (false≢true h)

second_of_two : {A : Type 0} (b : Bool) (x y : A) → b ≡ false → cond b x y ≡ y
second_of_two true x y h = absurd (false≢true (sym h))
second_of_two false x y h = refl

-- ---- at first

-- one object more that nobody holds
pub opened_more : (plan : Plan) (items : List Version) (n : ℕ) (v : Version) → length items ≡ n
    → ((o : ℕ) → o < n → IsVersionOf plan [] o (at items o)) → v.value ≡ initial_of plan n → v.holder ≡ None
    → length v.saved ≡ most_depth → (o : ℕ) → o < n + 1 → IsVersionOf plan [] o (at (items ++ v ∷ []) o)
opened_more plan items n v long each value free room o l = elim (cases_lt o n) [
  | inl before ↦
      subst (IsVersionOf plan [] o) (sym (get_or-append items (v ∷ []) nothing_kept o (omega (arith, long)))) (each o before)
  | inr last ↦
      let is : o ≡ length items = omega (arith, long) in
      let there : at (items ++ v ∷ []) o ≡ v = ap (at (items ++ v ∷ [])) is ∙ get_or-append_seam items v [] nothing_kept in
      let own : initial_of plan n ≡ initial_of plan o = let same : n ≡ o = omega arith in ap (initial_of plan) same in
      subst (IsVersionOf plan [] o) (sym there) (record {
        holder = free;
        value = value ∙ own;
        room = room;
        at_start = λ p live used. absurd (false≢true live);
      })
]

-- ---- all objects

-- where what is kept of each object goes on standing, all does
kept : (plan : Plan) (past : List Entry) (e : Entry) (old new : List Version) → StandsFor plan past old → length new ≡ length old
    → ((o : ℕ) → o < length plan.objects → IsVersionOf plan past o (at old o) → IsVersionOf plan (e ∷ past) o (at new o))
    → StandsFor plan (e ∷ past) new
kept plan past e old new s as_many one = record { as_many = as_many ∙ s.as_many; each = λ o l. one o l (s.each o l) }

-- where the objects of a list change, and the others are kept of as before, all is kept by the past
each_kept : (plan : Plan) (past : List Entry) (e : Entry) (objects : List ℕ) (change : Version → Version) (old new : List Version)
    → StandsFor plan past old → ChangesEach objects change old new
    → ((o : ℕ) (version : Version) → member o objects ≡ true → IsVersionOf plan past o version
    → IsVersionOf plan (e ∷ past) o (change version))
    → ((o : ℕ) (version : Version) → member o objects ≡ false → IsVersionOf plan past o version
    → IsVersionOf plan (e ∷ past) o version)
    → StandsFor plan (e ∷ past) new
each_kept plan past e objects change old new s c changed other = kept plan past e old new s c.as_many (λ o l was.
    elim (cases_Bool (member o objects)) [
      | inl m ↦ subst (IsVersionOf plan (e ∷ past) o) (sym (c.each o m)) (changed o (at old o) m was)
      | inr m ↦ subst (IsVersionOf plan (e ∷ past) o) (sym (c.others o m)) (other o (at old o) m was)
    ])

-- ---- starts and ends

module _ (plan : Plan) (past : List Entry) (e : Entry) (p : ℕ) where
  -- e as the start of p, and as its end
  abbrev start : Entry
  start = record e { kind = kind.Start; place = p }

  abbrev finish : Entry
  finish = record e { kind = kind.End; place = p }

  start_is : e.kind ≡ kind.Start → e.place ≡ p → start ≡ e
  start_is k h = ap₂ (λ k q. record e { kind = k; place = q }) (sym k) (sym h)

  finish_is : e.kind ≡ kind.End → e.place ≡ p → finish ≡ e
  finish_is k h = ap₂ (λ k q. record e { kind = k; place = q }) (sym k) (sym h)

  -- another place is live after the start of p just where it was
  live_before : (q : ℕ) → (p == q) ≡ false → is_live (start ∷ past) q ≡ true → is_live past q ≡ true
  live_before q other live = let same : is_live (start ∷ past) q ≡ is_live past q = rw other refl in sym same ∙ live

  -- and what stood before its start is the same
  start_before : (q : ℕ) → (p == q) ≡ false → before_start (start ∷ past) q ≡ before_start past q
  start_before q other = second_of_two (p == q) past (before_start past q) other

  start_here : (q : ℕ) → (p == q) ≡ true → before_start (start ∷ past) q ≡ past
  start_here q same = first_of_two (p == q) past (before_start past q) same

  -- each object that p takes, and each other one
  taken_one : (o : ℕ) (version : Version) → depth plan p < length version.saved
      → ((q : ℕ) → uses plan q o ≡ true → is_live past q ≡ true → depth plan q < depth plan p) → uses plan p o ≡ true
      → IsVersionOf plan past o version → IsVersionOf plan (start ∷ past) o (taken p (depth plan p) version)
  taken_one o version low deepest used was = record {
    holder = sym (first_of_two (uses plan p o) (Some p) (holder_of plan past o) used);
    value = was.value;
    room = length-set version.saved (depth plan p) version.value ∙ was.room;
    at_start = λ q live there. elim (cases_Bool (p == q)) [
      | inl same ↦
          ap (λ r. saved_at (taken p (depth plan p) version) (depth plan r)) (sym (eqb-true p q same))
          ∙ (get_or-set_same version.saved (depth plan p) version.value _ low
          ∙ (was.value ∙ ap (λ es. value_of plan es o) (sym (start_here q same))))
      | inr other ↦
          let was_live = live_before q other live in
          let less = deepest q there was_live in
          get_or-set_other version.saved (depth plan p) (depth plan q) version.value _ (λ w. omega (arith, w))
          ∙ (was.at_start q was_live there ∙ ap (λ es. value_of plan es o) (sym (start_before q other)))
    ];
  }

  untaken_one : (o : ℕ) (version : Version) → uses plan p o ≡ false → IsVersionOf plan past o version
      → IsVersionOf plan (start ∷ past) o version
  untaken_one o version unused was = record {
    holder = was.holder ∙ sym (second_of_two (uses plan p o) (Some p) (holder_of plan past o) unused);
    value = was.value;
    room = was.room;
    at_start = λ q live there. elim (cases_Bool (p == q)) [
      | inl same ↦ absurd (both_ways _ unused (subst (λ r. uses plan r o ≡ true) (sym (eqb-true p q same)) there))
      | inr other ↦ was.at_start q (live_before q other live) there ∙ ap (λ es. value_of plan es o) (sym (start_before q other))
    ];
  }

  -- what is live after the end of p was live before
  live_until : (s f x : Bool) → (s && not (x || f)) ≡ true → (s && not f) ≡ true
  live_until true true true h = absurd (false≢true h)
  live_until true true false h = absurd (false≢true h)
  live_until true false x h = refl
  live_until false f x h = absurd (false≢true h)

  -- each object that p gives back, and each other one
  given_one : (o : ℕ) (version : Version) → uses plan p o ≡ true → IsVersionOf plan past o version
      → IsVersionOf plan (finish ∷ past) o (held_by (parent plan p) version)
  given_one o version used was = record {
    holder = sym (first_of_two (uses plan p o) (parent plan p) (holder_of plan past o) used);
    value = was.value;
    room = was.room;
    at_start = λ q live there. was.at_start q (live_until _ _ (p == q) live) there;
  }

  ungiven_one : (o : ℕ) (version : Version) → uses plan p o ≡ false → IsVersionOf plan past o version
      → IsVersionOf plan (finish ∷ past) o version
  ungiven_one o version unused was = record {
    holder = was.holder ∙ sym (second_of_two (uses plan p o) (parent plan p) (holder_of plan past o) unused);
    value = was.value;
    room = was.room;
    at_start = λ q live there. was.at_start q (live_until _ _ (p == q) live) there;
  }

-- where p starts and takes its objects, what is kept goes on standing
pub taken_keeps : (plan : Plan) (past : List Entry) (e : Entry) (p : ℕ) (old new : List Version) → depth plan p < most_depth
    → StandsFor plan past old → Takes plan past e p → ChangesEach (objects_of plan p) (taken p (depth plan p)) old new
    → StandsFor plan (e ∷ past) new
taken_keeps plan past e p old new low s t c =
    subst (λ x. StandsFor plan (x ∷ past) new) (start_is plan past e p t.starts t.here)
    (each_kept plan past (start plan past e p) (objects_of plan p) (taken p (depth plan p)) old new s c
    (λ o version m was. taken_one plan past e p o version (subst (λ n. depth plan p < n) (sym was.room) low)
    (λ q used live. t.deepest o q m used live) m was)
    (λ o version m was. untaken_one plan past e p o version m was))

-- where p ends and gives its objects back
pub given_keeps : (plan : Plan) (past : List Entry) (e : Entry) (p : ℕ) (old new : List Version) → StandsFor plan past old → GivesBack e p
    → ChangesEach (objects_of plan p) (held_by (parent plan p)) old new → StandsFor plan (e ∷ past) new
given_keeps plan past e p old new s g c =
    subst (λ x. StandsFor plan (x ∷ past) new) (finish_is plan past e p g.ends g.here)
    (each_kept plan past (finish plan past e p) (objects_of plan p) (held_by (parent plan p)) old new s c
    (λ o version m was. given_one plan past e p o version m was)
    (λ o version m was. ungiven_one plan past e p o version m was))

-- ---- other entries

-- the entry starts and ends no place
record IsAmid (plan : Plan) (past : List Entry) (e : Entry) : Type 0 where
  pub holders : (o : ℕ) → holder_of plan (e ∷ past) o ≡ holder_of plan past o
  pub live : (p : ℕ) → is_live (e ∷ past) p ≡ is_live past p
  pub starts : (p : ℕ) → before_start (e ∷ past) p ≡ before_start past p

amid : (plan : Plan) (past : List Entry) (k : Kind) (e : Entry) → is_of kind.Start (of_kind k e) ≡ false
    → is_of kind.End (of_kind k e) ≡ false → IsAmid plan past (of_kind k e)
amid plan past kind.Start e h g = absurd (false≢true (sym h))
amid plan past kind.End e h g = absurd (false≢true (sym g))
amid plan past _ e h g = record { holders = λ o. refl; live = λ p. refl; starts = λ p. refl }

put_amid : (plan : Plan) (past : List Entry) (k : Kind) (e : Entry) → is_put (of_kind k e) ≡ true → IsAmid plan past (of_kind k e)
put_amid plan past kind.Write e h = amid plan past kind.Write e refl refl
put_amid plan past kind.Restore e h = amid plan past kind.Restore e refl refl
put_amid plan past _ e h = absurd (false≢true h)

-- a put leaves the values of all other objects
put_apart : (plan : Plan) (past : List Entry) (k : Kind) (e : Entry) (o : ℕ) → is_put (of_kind k e) ≡ true → (e.arg == o) ≡ false
    → value_of plan (of_kind k e ∷ past) o ≡ value_of plan past o
put_apart plan past kind.Write e o h other = rw other refl
put_apart plan past kind.Restore e o h other = rw other refl
put_apart plan past _ e o h other = absurd (false≢true h)

-- and what is no put those of all
no_put : (plan : Plan) (past : List Entry) (k : Kind) (e : Entry) (o : ℕ) → is_put (of_kind k e) ≡ false
    → value_of plan (of_kind k e ∷ past) o ≡ value_of plan past o
no_put plan past kind.Write e o h = absurd (false≢true (sym h))
no_put plan past kind.Restore e o h = rw h (by_test (e.arg == o))
  where
    by_test : (b : Bool) → value_outside plan past o (cond (b && false) (e.place ∷ []) []) ≡ value_of plan past o
    by_test true = refl
    by_test false = refl
no_put plan past _ e o h = refl

-- an entry amid others leaves what is kept of an object, but for its value
amid_one : (plan : Plan) (past : List Entry) (e : Entry) (o : ℕ) (v : ℤ) (version : Version) → IsAmid plan past e
    → v ≡ value_of plan (e ∷ past) o → IsVersionOf plan past o version → IsVersionOf plan (e ∷ past) o (valued v version)
amid_one plan past e o v version m is was = record {
  holder = was.holder ∙ sym (m.holders o);
  value = is;
  room = was.room;
  at_start = λ p live used. was.at_start p (sym (m.live p) ∙ live) used ∙ ap (λ es. value_of plan es o) (sym (m.starts p));
}

-- where the device takes a value of o
pub written_keeps : (plan : Plan) (past : List Entry) (e : Entry) (o : ℕ) (v : ℤ) (old : List Version) → o < length old
    → StandsFor plan past old → Puts plan past e o v → StandsFor plan (e ∷ past) (slice_set old o (valued v (at old o)))
written_keeps plan past e o v old l s w = kept plan past e old _ s (length-set old o _) (λ x x_in was. elim (cases_Bool (o == x)) [
  | inl same ↦
      let is : o ≡ x = eqb-true o x same in
      let new : at (slice_set old o (valued v (at old o))) x ≡ valued v (at old x) =
      subst (λ r. at (slice_set old o (valued v (at old o))) r ≡ valued v (at old r)) is
      (get_or-set_same old o _ nothing_kept l) in
      subst (IsVersionOf plan (e ∷ past) x) (sym new)
      (amid_one plan past e x v (at old x) (put_amid plan past e.kind e w.takes)
      (subst (λ r. v ≡ value_of plan (e ∷ past) r) is (sym w.value)) was)
  | inr other ↦
      let new : at (slice_set old o (valued v (at old o))) x ≡ at old x =
      get_or-set_other old o x _ nothing_kept (λ w. both_ways _ other (eq-eqb o x (sym w))) in
      let apart = put_apart plan past e.kind e x w.takes (ap (λ a. a == x) w.object ∙ other) in
      subst (IsVersionOf plan (e ∷ past) x) (sym new)
      (amid_one plan past e x (at old x).value (at old x) (put_amid plan past e.kind e w.takes) (was.value ∙ sym apart) was)
])

-- an entry that is no start, no end and no put changes nothing
pub others_keep : (plan : Plan) (past : List Entry) (e : Entry) (versions : List Version) → is_of kind.Start e ≡ false
    → is_of kind.End e ≡ false → is_put e ≡ false → StandsFor plan past versions → StandsFor plan (e ∷ past) versions
others_keep plan past e versions h g w s = kept plan past e versions versions s refl (λ o l was.
    amid_one plan past e o (at versions o).value (at versions o) (amid plan past e.kind e h g)
    (was.value ∙ sym (no_put plan past e.kind e o w)) was)
