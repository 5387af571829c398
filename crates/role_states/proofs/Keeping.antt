-- One entry more: how the frames go on standing for the journal.
use Rattle.std.proofs.Common.{◌≡◌, ◌∙◌, ◌⊎◌, ℕ, ℤ, pos, suc, zero, ◌==◌, ◌<◌, Bool, true, false, not, cond, ◌&&◌, ◌||◌, List, [], ◌∷◌, Option, Some, None, length, map, slice_set, get_or-set_same, get_or-set_other, length-set, refl, sym, ap, subst, inl, inr}
use Rattle.std.proofs.lemmas.Bool.{cases_Bool, eqb-true, eq-eqb, both_ways, or_left, or_right, false≢true}
use Rattle.caa_base.specs.declared.written.entry.Entry.{Entry}
use Rattle.caa_base.specs.declared.written.entry.Kind.{Kind}
use Rattle.caa_base.specs.declared.written.entry.Kind.TheVariants as kind
use Rattle.caa_base.specs.Written.Lists.{member, is_at, first_of}
use Rattle.place_plan.specs.Plans.PlanValue.{Plan}
use Rattle.place_plan.specs.Plans.Places.{around, parent}
use Rattle.place_plan.specs.RulesOfJournals.Entries.{is_in}
use Rattle.place_plan.specs.RulesOfJournals.Whereabouts.{inside, inside_after, is_left_in_silence}
use Rattle.place_plan.specs.RulesOfJournals.Raising.{has_handled}
use Rattle.place_plan.specs.RulesOfJournals.Roles.{position, register, advances, gives_value}
use Rattle.place_plan.proofs.OnJournals.EntryKinds.{of_kind}
use Rattle.role_states.specs.declared.frame.Frame.{Frame}
use Rattle.role_states.specs.inner.Stacks.{at, top, rest, entered, advanced, begun, changed}
use Rattle.role_states.specs.inner.Standing.{chain, NestsWell, IsFrameOf, AreFramesOf, IsStackOf, StandsFor, IsInnermost, Comes, is_step, value_given, Steps, BeginsHandler, GoesOut, ComesBack}

-- an entry of this kind is e itself
of_its_kind : (k : Kind) (e : Entry) → e.kind ≡ k → of_kind k e ≡ e
of_its_kind k e h = ap (λ (j : Kind). of_kind j e) (sym h)

-- the place of a frame
abbrev place_of : Frame → ℕ
place_of f = f.place

-- ---- an entry of another participant

two_tests : {A : Type 0} (a b : Bool) (x y z : A) → cond (a && false) x (cond (b && false) y z) ≡ z
two_tests true true x y z = refl
two_tests true false x y z = refl
two_tests false true x y z = refl
two_tests false false x y z = refl

value_tests : {A : Type 0} (a b c : Bool) (x y z : A) → cond (a && false) x (cond (b && (c && false)) y z) ≡ z
value_tests true true true x y z = refl
value_tests true true false x y z = refl
value_tests true false c x y z = refl
value_tests false true true x y z = refl
value_tests false true false x y z = refl
value_tests false false c x y z = refl

one_test : (a b : Bool) → ((a && false) || b) ≡ b
one_test true b = refl
one_test false b = refl

inside_other : (plan : Plan) (k : Kind) (p : ℕ) (was : Option ℕ) → inside_after plan k p false was ≡ was
inside_other plan kind.Arrive p was = refl
inside_other plan kind.Withdraw p was = refl
inside_other plan kind.Leave p was = refl
inside_other plan _ p was = refl

module _ (plan : Plan) (past : List Entry) (e : Entry) (t : ℕ) (other : (e.by == t) ≡ false) where
  frame_other : (f : Frame) → IsFrameOf plan past t f → IsFrameOf plan (e ∷ past) t f
  frame_other f s =
      record {
        position =
            s.position ∙ sym (rw other (two_tests (is_in kind.Handle f.place e) (advances plan past f.place e e.kind) _ _ _));
        register =
            s.register
            ∙ sym (rw other (value_tests (is_in kind.Handle f.place e) (gives_value e.kind) (e.place == f.place) _ _ _));
        handling = s.handling ∙ sym (rw other (one_test (is_in kind.Handle f.place e) _));
      }

  frames_other : (fs : List Frame) → AreFramesOf plan past t fs → AreFramesOf plan (e ∷ past) t fs
  frames_other [] s = tt
  frames_other (f ∷ fs) s = (frame_other f s.0, frames_other fs s.1)

  stack_other : (fs : List Frame) → IsStackOf plan past t fs → IsStackOf plan (e ∷ past) t fs
  stack_other fs s =
      record {
        places = s.places ∙ ap (chain plan) (sym (rw other (inside_other plan e.kind e.place (inside plan past t))));
        each = frames_other fs s.each;
      }

-- where the frames of the entry's maker are still those by the journal, all are
kept : (plan : Plan) (past : List Entry) (e : Entry) (old : List (List Frame)) (fs : List Frame) → e.by < length old
    → StandsFor plan past old → IsStackOf plan (e ∷ past) e.by fs → StandsFor plan (e ∷ past) (slice_set old e.by fs)
kept plan past e old fs l s here =
    record {
      as_many = length-set old e.by fs ∙ s.as_many;
      each = λ t known. elim (cases_Bool (e.by == t)) [
        | inl same ↦
            subst (λ u. IsStackOf plan (e ∷ past) u (at (slice_set old e.by fs) u)) (eqb-true e.by t same)
            (subst (IsStackOf plan (e ∷ past) e.by) (sym (get_or-set_same old e.by fs [] l)) here)
        | inr other ↦
            subst (IsStackOf plan (e ∷ past) t)
            (sym (get_or-set_other old e.by t fs [] (λ w. both_ways _ other (eq-eqb e.by t (sym w)))))
            (stack_other plan past e t other (at old t) (s.each t known))
      ];
    }

-- the same, where the frames of the maker change in this way
all_kept : (plan : Plan) (past : List Entry) (e : Entry) (old : List (List Frame)) (t : ℕ) (change : List Frame → List Frame)
    → e.by ≡ t → t < length old → StandsFor plan past old
    → ((fs : List Frame) → IsStackOf plan past e.by fs → IsStackOf plan (e ∷ past) e.by (change fs))
    → StandsFor plan (e ∷ past) (slice_set old t (change (at old t)))
all_kept plan past e old t change own known s goes_on =
    let there : e.by < length old = subst (λ u. u < length old) (sym own) known in
    let mine = s.each e.by (subst (λ n. e.by < n) s.as_many there) in
    subst (λ u. StandsFor plan (e ∷ past) (slice_set old u (change (at old u)))) own
    (kept plan past e old (change (at old e.by)) there s (goes_on (at old e.by) mine))

-- ---- the frame of one place changes

-- the entry changes the frame of t in p in this way, and no other of t
record ChangesIn (plan : Plan) (past : List Entry) (e : Entry) (t p : ℕ) (change : Frame → Frame) : Type 0 where
  place : (f : Frame) → (change f).place ≡ f.place
  here : (f : Frame) → (p == f.place) ≡ true → IsFrameOf plan past t f → IsFrameOf plan (e ∷ past) t (change f)
  apart : (f : Frame) → (p == f.place) ≡ false → IsFrameOf plan past t f → IsFrameOf plan (e ∷ past) t f

module _ (plan : Plan) (nests : NestsWell plan) (past : List Entry) (e : Entry) (t p : ℕ)
    (change : Frame → Frame) (w : ChangesIn plan past e t p change) where
  along : (fs : List Frame) → ((q : ℕ) → member q (map place_of fs) ≡ true → (p == q) ≡ false)
      → AreFramesOf plan past t fs → AreFramesOf plan (e ∷ past) t fs
  along [] apart s = tt
  along (f ∷ fs) apart s = (
    w.apart f (apart f.place (or_left (f.place == f.place) _ (eq-eqb f.place f.place refl))) s.0,
    along fs (λ q m. apart q (or_right (f.place == q) _ m)) s.1,
  )

  changed_places : (fs : List Frame) → map place_of (changed change fs) ≡ map place_of fs
  changed_places [] = refl
  changed_places (f ∷ fs) = ap (λ q. q ∷ map place_of fs) (w.place f)

  changed_frames : (fs : List Frame) → map place_of fs ≡ p ∷ around plan p → AreFramesOf plan past t fs
      → AreFramesOf plan (e ∷ past) t (changed change fs)
  changed_frames [] places s = absurd cc
  changed_frames (f ∷ fs) places s =
      let first : f.place ≡ p = cc in
      let others : map place_of fs ≡ around plan p = cc in (
        w.here f (eq-eqb p f.place (sym first)) s.0,
        along fs (λ q m. nests.above p q (subst (λ (qs : List ℕ). member q qs ≡ true) others m)) s.1,
      )

-- where its maker stays in the place that it is in, and the frame of that changes
changed_keeps : (plan : Plan) (nests : NestsWell plan) (past : List Entry) (e : Entry) (change : Frame → Frame)
    → inside plan past e.by ≡ Some e.place → inside plan (e ∷ past) e.by ≡ inside plan past e.by
    → ChangesIn plan past e e.by e.place change
    → (fs : List Frame) → IsStackOf plan past e.by fs → IsStackOf plan (e ∷ past) e.by (changed change fs)
changed_keeps plan nests past e change here stays w fs s =
    record {
      places = changed_places plan nests past e e.by e.place change w fs ∙ s.places ∙ ap (chain plan) (sym stays);
      each = changed_frames plan nests past e e.by e.place change w fs (s.places ∙ ap (chain plan) here) s.each;
    }

-- ---- tests on the maker

one : {A : Type 0} (b c : Bool) (x y : A) → c ≡ true → cond (b && c) x y ≡ cond b x y
one true c x y h = rw h refl
one false c x y h = refl

one_or : (b c d : Bool) → c ≡ true → ((b && c) || d) ≡ cond b true d
one_or true c d h = rw h refl
one_or false c d h = refl

same_either : {A : Type 0} (b : Bool) (x : A) → x ≡ cond b x x
same_either true x = refl
same_either false x = refl

own : (e : Entry) → (e.by == e.by) ≡ true
own e = eq-eqb e.by e.by refl

-- ---- arrivals

arrived_keeps : (plan : Plan) (past : List Entry) (e : Entry) → around plan e.place ≡ chain plan (inside plan past e.by)
    → position plan past e.place e.by ≡ 0 → register plan past e.place e.by ≡ pos 0 → has_handled past e.place e.by ≡ false
    → (fs : List Frame) → IsStackOf plan past e.by fs
    → IsStackOf plan (of_kind kind.Arrive e ∷ past) e.by (entered e.place ∷ fs)
arrived_keeps plan past e leads unstepped unread unhandled fs s =
    record {
      places = rw (own e) (ap (λ (qs : List ℕ). e.place ∷ qs) (s.places ∙ sym leads));
      each = (record { position = sym unstepped; register = sym unread; handling = sym unhandled }, still fs s.each);
    }
  where
    still : (gs : List Frame) → AreFramesOf plan past e.by gs → AreFramesOf plan (of_kind kind.Arrive e ∷ past) e.by gs
    still [] s = tt
    still (g ∷ gs) s = (record { position = s.0.position; register = s.0.register; handling = s.0.handling }, still gs s.1)

pub comes_keeps : (plan : Plan) (past : List Entry) (e : Entry) (t p : ℕ) (old : List (List Frame)) → t < length old
    → StandsFor plan past old → Comes plan past e t p → StandsFor plan (e ∷ past) (slice_set old t (entered p ∷ at old t))
comes_keeps plan past e t p old known s w =
    subst (λ q. StandsFor plan (e ∷ past) (slice_set old t (entered q ∷ at old t))) w.there
    (all_kept plan past e old t (λ fs. entered e.place ∷ fs) w.own known s
    (λ fs k. subst (λ (x : Entry). IsStackOf plan (x ∷ past) e.by (entered e.place ∷ fs)) (of_its_kind kind.Arrive e w.is)
    (arrived_keeps plan past e w.leads w.unstepped w.unread w.unhandled fs k)))

-- ---- steps

-- the value, or the register as it was
abbrev or_register : Option ℤ → ℤ → ℤ
or_register None r = r
or_register (Some v) r = v

-- what a step changes
record StepChanges (plan : Plan) (past : List Entry) (e : Entry) : Type 0 where
  stays : inside plan (e ∷ past) e.by ≡ inside plan past e.by
  steps : (q : ℕ) → position plan (e ∷ past) q e.by ≡ cond (e.place == q) (suc (position plan past q e.by)) (position plan past q e.by)
  gives : (q : ℕ) → register plan (e ∷ past) q e.by
      ≡ cond (e.place == q) (or_register (value_given e) (register plan past q e.by)) (register plan past q e.by)
  handles : (q : ℕ) → has_handled (e ∷ past) q e.by ≡ has_handled past q e.by

step_changes : (plan : Plan) (past : List Entry) (k : Kind) (e : Entry) → is_step k ≡ true → StepChanges plan past (of_kind k e)
step_changes plan past kind.Read e w =
    record {
      stays = refl;
      steps = λ q. one (e.place == q) _ _ _ (own e);
      gives = λ q. one (e.place == q) _ _ _ (own e);
      handles = λ q. refl;
    }
step_changes plan past kind.Work e w =
    record {
      stays = refl;
      steps = λ q. one (e.place == q) _ _ _ (own e);
      gives = λ q. one (e.place == q) _ _ _ (own e);
      handles = λ q. refl;
    }
step_changes plan past kind.Write e w =
    record {
      stays = refl;
      steps = λ q. one (e.place == q) _ _ _ (own e);
      gives = λ q. one (e.place == q) _ _ _ (own e);
      handles = λ q. refl;
    }
step_changes plan past kind.Check e w =
    record {
      stays = refl;
      steps = λ q. one (e.place == q) _ _ _ (own e);
      gives = λ q. same_either (e.place == q) _;
      handles = λ q. refl;
    }
step_changes plan past _ e w = absurd (false≢true w)

advanced_place : (value : Option ℤ) (f : Frame) → (advanced value f).place ≡ f.place
advanced_place None f = refl
advanced_place (Some v) f = refl

module _ (plan : Plan) (past : List Entry) (e : Entry) (w : StepChanges plan past e) where
  stepped_frame : (value : Option ℤ) (f : Frame) → value_given e ≡ value → (e.place == f.place) ≡ true
      → IsFrameOf plan past e.by f → IsFrameOf plan (e ∷ past) e.by (advanced value f)
  stepped_frame None f gives here s =
      record {
        position = ap suc s.position ∙ sym (w.steps f.place ∙ rw here refl);
        register = s.register ∙ sym (w.gives f.place ∙ rw (here, gives) refl);
        handling = s.handling ∙ sym (w.handles f.place);
      }
  stepped_frame (Some v) f gives here s =
      record {
        position = ap suc s.position ∙ sym (w.steps f.place ∙ rw here refl);
        register = sym (w.gives f.place ∙ rw (here, gives) refl);
        handling = s.handling ∙ sym (w.handles f.place);
      }

  step_change : (value : Option ℤ) → value_given e ≡ value → ChangesIn plan past e e.by e.place (advanced value)
  step_change value gives =
      record {
        place = advanced_place value;
        here = λ f here s. stepped_frame value f gives here s;
        apart = λ f off s. record {
          position = s.position ∙ sym (w.steps f.place ∙ rw off refl);
          register = s.register ∙ sym (w.gives f.place ∙ rw off refl);
          handling = s.handling ∙ sym (w.handles f.place);
        };
      }

pub steps_keep : (plan : Plan) (nests : NestsWell plan) (past : List Entry) (e : Entry) (t : ℕ) (value : Option ℤ)
    (old : List (List Frame)) → t < length old → StandsFor plan past old → Steps plan past e t value
    → StandsFor plan (e ∷ past) (slice_set old t (changed (advanced value) (at old t)))
steps_keep plan nests past e t value old known s w =
    let change = step_changes plan past e.kind e w.is in
    all_kept plan past e old t (changed (advanced value)) w.own known s
    (changed_keeps plan nests past e (advanced value) w.here change.stays (step_change plan past e change value w.gives))

-- ---- handlers

module _ (plan : Plan) (past : List Entry) (e : Entry) where
  abbrev handled : Entry
  handled = of_kind kind.Handle e

  begins : (q : ℕ) → position plan (handled ∷ past) q e.by ≡ cond (e.place == q) zero (position plan past q e.by)
  begins q = one (e.place == q) _ _ _ (own e)

  empties : (q : ℕ) → register plan (handled ∷ past) q e.by ≡ cond (e.place == q) (pos 0) (register plan past q e.by)
  empties q = one (e.place == q) _ _ _ (own e)

  handles : (q : ℕ) → has_handled (handled ∷ past) q e.by ≡ cond (e.place == q) true (has_handled past q e.by)
  handles q = one_or (e.place == q) _ _ (own e)

  handler_change : ChangesIn plan past handled e.by e.place begun
  handler_change =
      record {
        place = λ f. refl;
        here = λ f here s. record {
          position = sym (begins f.place ∙ rw here refl);
          register = sym (empties f.place ∙ rw here refl);
          handling = sym (handles f.place ∙ rw here refl);
        };
        apart = λ f off s. record {
          position = s.position ∙ sym (begins f.place ∙ rw off refl);
          register = s.register ∙ sym (empties f.place ∙ rw off refl);
          handling = s.handling ∙ sym (handles f.place ∙ rw off refl);
        };
      }

pub handler_keeps : (plan : Plan) (nests : NestsWell plan) (past : List Entry) (e : Entry) (t : ℕ) (old : List (List Frame))
    → t < length old → StandsFor plan past old → BeginsHandler plan past e t
    → StandsFor plan (e ∷ past) (slice_set old t (changed begun (at old t)))
handler_keeps plan nests past e t old known s w =
    all_kept plan past e old t (changed begun) w.own known s
    (λ fs k. subst (λ (x : Entry). IsStackOf plan (x ∷ past) e.by (changed begun fs)) (of_its_kind kind.Handle e w.is)
    (changed_keeps plan nests past (of_kind kind.Handle e) begun w.here refl (handler_change plan past e) fs k))

-- ---- going out

-- the frames round that of the place, where the maker goes out of it
round : (plan : Plan) (past : List Entry) (e : Entry) (fs : List Frame) → inside plan past e.by ≡ Some e.place
    → IsStackOf plan past e.by fs → (map place_of (rest fs) ≡ around plan e.place) × AreFramesOf plan past e.by (rest fs)
round plan past e fs here s = by_frames fs (s.places ∙ ap (chain plan) here) s.each
  where
    by_frames : (gs : List Frame) → map place_of gs ≡ e.place ∷ around plan e.place → AreFramesOf plan past e.by gs
        → (map place_of (rest gs) ≡ around plan e.place) × AreFramesOf plan past e.by (rest gs)
    by_frames [] places each = absurd cc
    by_frames (g ∷ gs) places each = let others : map place_of gs ≡ around plan e.place = cc in (others, each.1)

-- where the frames of its maker stay the same
gone_keeps : (plan : Plan) (nests : NestsWell plan) (past : List Entry) (e : Entry) → inside plan past e.by ≡ Some e.place
    → inside plan (e ∷ past) e.by ≡ parent plan e.place
    → ((f : Frame) → IsFrameOf plan past e.by f → IsFrameOf plan (e ∷ past) e.by f)
    → (fs : List Frame) → IsStackOf plan past e.by fs → IsStackOf plan (e ∷ past) e.by (rest fs)
gone_keeps plan nests past e here out same fs s =
    let others = round plan past e fs here s in
    record { places = others.0 ∙ sym (nests.up e.place) ∙ ap (chain plan) (sym out); each = still (rest fs) others.1 }
  where
    still : (gs : List Frame) → AreFramesOf plan past e.by gs → AreFramesOf plan (e ∷ past) e.by gs
    still [] each = tt
    still (g ∷ gs) each = (same g each.0, still gs each.1)

withdrawn_keeps : (plan : Plan) (nests : NestsWell plan) (past : List Entry) (e : Entry) → inside plan past e.by ≡ Some e.place
    → (fs : List Frame) → IsStackOf plan past e.by fs → IsStackOf plan (of_kind kind.Withdraw e ∷ past) e.by (rest fs)
withdrawn_keeps plan nests past e here =
    gone_keeps plan nests past (of_kind kind.Withdraw e) here (rw (own e) refl)
    (λ f s. record { position = s.position; register = s.register; handling = s.handling })

-- what a Leave makes of the position of its maker
module _ (plan : Plan) (past : List Entry) (e : Entry) where
  abbrev leave : Entry
  leave = of_kind kind.Leave e

  left_steps : (q : ℕ) → position plan (leave ∷ past) q e.by
      ≡ cond (is_at (parent plan e.place) q && not (is_left_in_silence plan past e.place))
      (suc (position plan past q e.by)) (position plan past q e.by)
  left_steps q = one (is_at (parent plan e.place) q && not (is_left_in_silence plan past e.place)) _ _ _ (own e)

  silent_steps : is_left_in_silence plan past e.place ≡ true → (q : ℕ) → position plan (leave ∷ past) q e.by ≡ position plan past q e.by
  silent_steps quiet q = left_steps q ∙ rw quiet (neither (is_at (parent plan e.place) q) _ _)
    where
      neither : (b : Bool) (x y : ℕ) → cond (b && false) x y ≡ y
      neither true x y = refl
      neither false x y = refl

  loud_steps : is_left_in_silence plan past e.place ≡ false → (q : ℕ)
      → position plan (leave ∷ past) q e.by
      ≡ cond (is_at (parent plan e.place) q) (suc (position plan past q e.by)) (position plan past q e.by)
  loud_steps loud q = left_steps q ∙ rw loud (one (is_at (parent plan e.place) q) true _ _ refl)

  out : inside plan (leave ∷ past) e.by ≡ parent plan e.place
  out = rw (own e) refl

silent_keeps : (plan : Plan) (nests : NestsWell plan) (past : List Entry) (e : Entry) → inside plan past e.by ≡ Some e.place
    → is_left_in_silence plan past e.place ≡ true
    → (fs : List Frame) → IsStackOf plan past e.by fs → IsStackOf plan (of_kind kind.Leave e ∷ past) e.by (rest fs)
silent_keeps plan nests past e here quiet =
    gone_keeps plan nests past (of_kind kind.Leave e) here (out plan past e)
    (λ f s. record { position = s.position ∙ sym (silent_steps plan past e quiet f.place); register = s.register; handling = s.handling })

pub goes_keeps : (plan : Plan) (nests : NestsWell plan) (past : List Entry) (e : Entry) (t : ℕ) (old : List (List Frame))
    → t < length old → StandsFor plan past old → GoesOut plan past e t
    → StandsFor plan (e ∷ past) (slice_set old t (rest (at old t)))
goes_keeps plan nests past e t old known s w = all_kept plan past e old t rest w.own known s (by_kind w.is)
  where
    by_kind : (e.kind ≡ kind.Withdraw) ⊎ ((e.kind ≡ kind.Leave) × (is_left_in_silence plan past e.place ≡ true))
        → (fs : List Frame) → IsStackOf plan past e.by fs → IsStackOf plan (e ∷ past) e.by (rest fs)
    by_kind (inl is) fs k =
        subst (λ (x : Entry). IsStackOf plan (x ∷ past) e.by (rest fs)) (of_its_kind kind.Withdraw e is)
        (withdrawn_keeps plan nests past e w.here fs k)
    by_kind (inr is) fs k =
        subst (λ (x : Entry). IsStackOf plan (x ∷ past) e.by (rest fs)) (of_its_kind kind.Leave e is.0)
        (silent_keeps plan nests past e w.here is.1 fs k)

-- ---- coming back

module _ (plan : Plan) (nests : NestsWell plan) (past : List Entry) (e : Entry) (loud : is_left_in_silence plan past e.place ≡ false) where
  -- the frame of the place round it makes a step
  back_change : (q : ℕ) → parent plan e.place ≡ Some q → ChangesIn plan past (of_kind kind.Leave e) e.by q (advanced None)
  back_change q into =
      record {
        place = λ f. refl;
        here = λ f here s. record {
          position = ap suc s.position ∙ sym (loud_steps plan past e loud f.place ∙ rw (into, here) refl);
          register = s.register;
          handling = s.handling;
        };
        apart = λ f off s. record {
          position = s.position ∙ sym (loud_steps plan past e loud f.place ∙ rw (into, off) refl);
          register = s.register;
          handling = s.handling;
        };
      }

  -- of the frames round the place that of the one right round it makes a step
  back_frames : (gs : List Frame) → map place_of gs ≡ around plan e.place → AreFramesOf plan past e.by gs
      → IsStackOf plan (of_kind kind.Leave e ∷ past) e.by (changed (advanced None) gs)
  back_frames [] places each =
      record { places = places ∙ sym (nests.up e.place) ∙ ap (chain plan) (sym (out plan past e)); each = tt }
  back_frames (h ∷ gs) places each =
      let into : parent plan e.place ≡ Some h.place = ap first_of (sym places) in
      let change = back_change h.place into in
      let whole : map place_of (h ∷ gs) ≡ h.place ∷ around plan h.place = places ∙ sym (nests.up e.place) ∙ ap (chain plan) into in
      record {
        places =
            changed_places plan nests past (of_kind kind.Leave e) e.by h.place (advanced None) change (h ∷ gs)
            ∙ places ∙ sym (nests.up e.place) ∙ ap (chain plan) (sym (out plan past e));
        each = changed_frames plan nests past (of_kind kind.Leave e) e.by h.place (advanced None) change (h ∷ gs) whole each;
      }

pub back_keeps : (plan : Plan) (nests : NestsWell plan) (past : List Entry) (e : Entry) (t : ℕ) (old : List (List Frame))
    → t < length old → StandsFor plan past old → ComesBack plan past e t
    → StandsFor plan (e ∷ past) (slice_set old t (changed (advanced None) (rest (at old t))))
back_keeps plan nests past e t old known s w =
    all_kept plan past e old t (λ fs. changed (advanced None) (rest fs)) w.own known s
    (λ fs k.
    let others = round plan past e fs w.here k in
    subst (λ (x : Entry). IsStackOf plan (x ∷ past) e.by (changed (advanced None) (rest fs))) (of_its_kind kind.Leave e w.is)
    (back_frames plan nests past e w.aloud (rest fs) others.0 others.1))

-- ---- the innermost frame

pub innermost : (plan : Plan) (past : List Entry) (t : ℕ) (fs : List Frame) → IsStackOf plan past t fs → IsInnermost plan past t (top fs)
innermost plan past t fs s = by_frames fs (inside plan past t) refl s.places s.each
  where
    by_frames : (gs : List Frame) (o : Option ℕ) → inside plan past t ≡ o → map place_of gs ≡ chain plan (inside plan past t)
        → AreFramesOf plan past t gs → IsInnermost plan past t (top gs)
    by_frames [] None w places each = w
    by_frames [] (Some p) w places each =
        let long : [] ≡ p ∷ around plan p = places ∙ ap (chain plan) w in
        absurd cc
    by_frames (g ∷ gs) None w places each =
        let short : g.place ∷ map place_of gs ≡ [] = places ∙ ap (chain plan) w in
        absurd cc
    by_frames (g ∷ gs) (Some p) w places each =
        let both : g.place ∷ map place_of gs ≡ p ∷ around plan p = places ∙ ap (chain plan) w in
        let same : g.place ≡ p = cc in
        (w ∙ ap Some (sym same), each.0)
