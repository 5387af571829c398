-- What arrivals, steps, handlers and leaves find of the frames of their maker, by the rules.
use Rattle.std.proofs.Common.{◌≡◌, ◌∙◌, ℕ, ℤ, suc, zero, ◌-◌, ◌^◌, ◌<◌, ◌≤◌, Bool, true, false, List, [], ◌∷◌, Option, Some, None, IfSome, length, map, is_none, slice_get, refl, sym, ap, subst, arith, inl, inr}
use Rattle.std.proofs.lemmas.Bool.{eqb-true, both_ways, false_from_ne_true, false≢true}
use Rattle.caa_base.specs.declared.written.entry.Entry.{Entry}
use Rattle.caa_base.specs.declared.written.entry.Kind.{Kind}
use Rattle.caa_base.specs.declared.written.entry.Kind.TheVariants as kind
use Rattle.caa_base.specs.Written.Limits.{most_depth, most_steps}
use Rattle.caa_base.specs.Written.Lists.{first_of}
use Rattle.place_plan.specs.declared.drafts.draft_rows.Step.{Step}
use Rattle.place_plan.specs.declared.drafts.draft_rows.Step.TheVariants as step
use Rattle.place_plan.specs.Plans.PlanValue.{Plan}
use Rattle.place_plan.specs.Plans.Places.{around, parent, nest_number}
use Rattle.place_plan.specs.Plans.Closed.{IsClosed}
use Rattle.place_plan.specs.RulesOfJournals.Whereabouts.{inside}
use Rattle.place_plan.specs.RulesOfJournals.Raising.{has_handled, exception_handled}
use Rattle.place_plan.specs.RulesOfJournals.Roles.{position, register, next_step, program_of}
use Rattle.place_plan.specs.RulesOfJournals.Rules.{Row, MayArrive, MayFollow, put_of, is_check}
use Rattle.place_plan.specs.RulesOfJournals.Journals.{LegalPast}
use Rattle.place_plan.proofs.OnJournals.EntryKinds.{of_kind}
use Rattle.place_plan.proofs.OnPlans.SmallParts.{deep, programs_short}
use Rattle.journal_laws.proofs.Playable.{IsTree, IsPlayable}
use Rattle.journal_laws.proofs.PlayablePlan.{is_playable}
use Rattle.journal_laws.proofs.Tree.{arrives_in}
use Rattle.journal_laws.proofs.Raised.{parent_round, raises}
use Rattle.journal_laws.proofs.Arrivals.{fresh, begins_play, next_has, inside_arrived, inside_not_left}
use Rattle.journal_laws.proofs.Visited.{visits}
use Rattle.action_core.proofs.Blank.{blank}
use Rattle.role_states.specs.declared.frame.Frame.{Frame}
use Rattle.role_states.specs.inner.Stacks.{at, top, rest, most_frames}
use Rattle.role_states.specs.inner.Standing.{chain, NestsWell, AreFramesOf, IsStackOf, StandsFor, Comes, Steps, is_step, value_given}
use Rattle.action_core.proofs.Makers.{maker_known, row_of}

module _ (plan : Plan) (tree : IsTree plan) where
  -- ---- the places of a plan, one inside another

  pub nests : NestsWell plan
  nests = record {
    up = λ p. by_around p (around plan p) refl;
    above = λ p q m. false_from_ne_true _ (λ w. let l = tree.above p q m in let same = eqb-true p q w in omega arith);
  }
    where
      by_around : (p : ℕ) (qs : List ℕ) → around plan p ≡ qs → chain plan (first_of (around plan p)) ≡ around plan p
      by_around p [] w = rw w refl
      by_around p (q ∷ qs) w = rw w (ap (λ (rs : List ℕ). q ∷ rs) (tree.chain p q qs w))

  -- ---- arrivals

  pub comes : (past : List Entry) (e : Entry) → LegalPast plan past → e.kind ≡ kind.Arrive → MayArrive plan past e
      → Comes plan past e e.by e.place
  comes past e legal is h =
      let b = blank plan tree past legal e.place e.by (fresh plan past e h) in
      record {
        is = is;
        own = refl;
        there = refl;
        leads = by_inside (inside plan past e.by) refl;
        unstepped = b.unstepped;
        unread =
            b.unread;
        unhandled = b.unhandled;
      }
    where
      by_inside : (o : Option ℕ) → inside plan past e.by ≡ o → around plan e.place ≡ chain plan (inside plan past e.by)
      by_inside None w =
          tree.tops e.place (next_has plan past e.by e.place (begins_play plan past e h w)).0 ∙ ap (chain plan) (sym w)
      by_inside (Some q) w = (arrives_in plan tree past e q h w).0 ∙ ap (chain plan) (sym w)

-- there is room for one frame more
pub room_for : (plan : Plan) → IsClosed plan → (past : List Entry) (e : Entry) (fs : List Frame)
    → Comes plan past e e.by e.place → IsStackOf plan past e.by fs → length fs < most_frames
room_for plan closed past e fs comes s =
    let low : length (around plan e.place) < most_depth = deep plan closed e.place in
    let many = as_many fs (around plan e.place) (s.places ∙ sym comes.leads) in
    omega (arith, low, many)
  where
    as_many : (gs : List Frame) (ps : List ℕ) → map (λ (f : Frame). f.place) gs ≡ ps → length gs ≡ length ps
    as_many gs ps w = length_map gs ∙ ap (λ (qs : List ℕ). length qs) w
      where
        length_map : (hs : List Frame) → length hs ≡ length (map (λ (f : Frame). f.place) hs)
        length_map [] = refl
        length_map (h ∷ hs) = ap suc (length_map hs)

-- ---- who is in a place has a frame

pub some_frame : (plan : Plan) (past : List Entry) (t p : ℕ) (fs : List Frame) → inside plan past t ≡ Some p
    → IsStackOf plan past t fs → is_none (top fs) ≡ false
some_frame plan past t p [] here s =
    let long : [] ≡ p ∷ around plan p = s.places ∙ ap (chain plan) here in
    absurd cc
some_frame plan past t p (f ∷ fs) here s = refl

-- the frames from p outwards: where the position in p is low, so is that of the innermost
pub low_top : (plan : Plan) (past : List Entry) (t p n : ℕ) (qs : List ℕ) (fs : List Frame)
    → map (λ (f : Frame). f.place) fs ≡ p ∷ qs → AreFramesOf plan past t fs → position plan past p t < n
    → IfSome (top fs) (λ f. f.position < n)
low_top plan past t p n qs [] w s l = absurd cc
low_top plan past t p n qs (f ∷ fs) w s l =
    let same : f.place ≡ p = cc in
    let is : f.position ≡ position plan past p t = s.0.position ∙ ap (λ q. position plan past q t) same in
    omega (arith, is, l)

-- a step that is there has a low number
step_number : {A : Type 0} (xs : List A) (n : ℕ) (x : A) → slice_get xs n ≡ Some x → n < length xs
step_number [] n x h = absurd cc
step_number (y ∷ ys) zero x h = omega arith
step_number (y ∷ ys) (suc n) x h = let l = step_number ys n x h in omega arith

-- who has a step left has made few
pub few_steps : (plan : Plan) → IsClosed plan → (past : List Entry) (p t : ℕ) (s : Step) → next_step plan past p t ≡ Some s
    → position plan past p t < 2 ^ 32 - 1
few_steps plan closed past p t s h =
    let l = step_number (program_of plan past p t).steps (position plan past p t) s h in
    let short : length (program_of plan past p t).steps ≤ most_steps =
    programs_short plan closed p t (exception_handled past p t) in
    omega (arith, l, short)

-- ---- steps

-- who makes a step has one
pub step_made : (plan : Plan) (past : List Entry) (k : Kind) (e : Entry) → is_step k ≡ true → Row k plan past (of_kind k e)
    → (s : Step) × (next_step plan past e.place e.by ≡ Some s)
step_made plan past kind.Read e w h = (step.Read e.arg, h.reads)
step_made plan past kind.Work e w h = (step.Work e.arg, h.works)
step_made plan past kind.Write e w h = of_put (next_step plan past e.place e.by) h.puts
  where
    of_put : (o : Option Step) → put_of o (register plan past e.place e.by) ≡ Some (e.arg, e.value) → (s : Step) × (o ≡ Some s)
    of_put None v = absurd cc
    of_put (Some s) v = (s, refl)
step_made plan past kind.Check e w h = of_check (next_step plan past e.place e.by) h.checks
  where
    of_check : (o : Option Step) → is_check o ≡ true → (s : Step) × (o ≡ Some s)
    of_check None v = absurd (false≢true v)
    of_check (Some s) v = (s, refl)
step_made plan past _ e w h = absurd (false≢true w)

-- its maker is in its place
pub step_here : (plan : Plan) (past : List Entry) (k : Kind) (e : Entry) → is_step k ≡ true → Row k plan past (of_kind k e)
    → inside plan past e.by ≡ Some e.place
step_here plan past kind.Read e w h = h.here
step_here plan past kind.Work e w h = h.here
step_here plan past kind.Write e w h = h.here
step_here plan past kind.Check e w h = h.here
step_here plan past _ e w h = absurd (false≢true w)

-- so it has a frame with a low position
pub few_made : (plan : Plan) → IsClosed plan → (past : List Entry) (e : Entry) (fs : List Frame) → is_step e.kind ≡ true
    → MayFollow plan past e → IsStackOf plan past e.by fs → IfSome (top fs) (λ f. f.position < 2 ^ 32 - 1)
few_made plan closed past e fs w may s =
    let made = step_made plan past e.kind e w may in
    low_top plan past e.by e.place (2 ^ 32 - 1) (around plan e.place) fs
    (s.places ∙ ap (chain plan) (step_here plan past e.kind e w may)) s.each
    (few_steps plan closed past e.place e.by made.0 made.1)

-- ---- leaves

module _ (plan : Plan) (playable : IsPlayable plan) where
  -- who is in a place of a use stands, in the place round it, at the step that enters the use
  pub entering : (past : List Entry) → LegalPast plan past → (p q t : ℕ) → inside plan past t ≡ Some p
      → parent plan p ≡ Some q → next_step plan past q t ≡ Some (step.Enter (nest_number plan p))
  entering past legal p q t here into =
      let away = ((raises plan playable.tree past legal).away q t p here (parent_round plan playable.tree p q into)).1 in
      elim ((visits plan playable past legal).at_step q p t into (inside_arrived plan playable.tree past legal p t here) away) [
        | inl gone ↦ absurd (both_ways _ (inside_not_left plan playable.tree past legal p t here) gone.0)
        | inr at ↦ at.0
      ]

-- the frames but the innermost
pub frames_round : (plan : Plan) (past : List Entry) (t p : ℕ) (fs : List Frame) → inside plan past t ≡ Some p
    → IsStackOf plan past t fs → (map (λ (f : Frame). f.place) (rest fs) ≡ around plan p) × AreFramesOf plan past t (rest fs)
frames_round plan past t p [] here s =
    let long : [] ≡ p ∷ around plan p = s.places ∙ ap (chain plan) here in
    absurd cc
frames_round plan past t p (f ∷ fs) here s =
    let both : f.place ∷ map (λ (g : Frame). g.place) fs ≡ p ∷ around plan p = s.places ∙ ap (chain plan) here in
    (cc, s.each.1)

-- who leaves a place has made few steps in the place round it
pub few_round : (plan : Plan) → IsClosed plan → (past : List Entry) → LegalPast plan past → (t p : ℕ) (fs : List Frame)
    → inside plan past t ≡ Some p → IsStackOf plan past t fs → IfSome (top (rest fs)) (λ f. f.position < 2 ^ 32 - 1)
few_round plan closed past legal t p fs here s =
    let outer = frames_round plan past t p fs here s in
    by_around (around plan p) refl outer.0 outer.1
  where
    by_around : (qs : List ℕ) → around plan p ≡ qs → map (λ (f : Frame). f.place) (rest fs) ≡ around plan p
        → AreFramesOf plan past t (rest fs) → IfSome (top (rest fs)) (λ f. f.position < 2 ^ 32 - 1)
    by_around [] w places each = no_top (rest fs) (places ∙ w)
      where
        no_top : (gs : List Frame) → map (λ (f : Frame). f.place) gs ≡ [] → IfSome (top gs) (λ f. f.position < 2 ^ 32 - 1)
        no_top [] v = tt
        no_top (g ∷ gs) v = absurd cc
    by_around (q ∷ qs) w places each =
        low_top plan past t q (2 ^ 32 - 1) qs (rest fs) (places ∙ w) each
        (few_steps plan closed past q t (step.Enter (nest_number plan p))
        (entering plan (is_playable plan closed) past legal p q t here (ap first_of w)))

-- ---- what the calls need

module _ (plan : Plan) (closed : IsClosed plan) (past : List Entry) (e : Entry) (legal : LegalPast plan past)
    (may : MayFollow plan past e) (stacks : List (List Frame)) (s : StandsFor plan past stacks) where
  pub maker_listed : e.by < length stacks
  maker_listed = subst (λ n. e.by < n) (sym s.as_many) (maker_known plan (is_playable plan closed) past e legal may)

  pub stack_of : IsStackOf plan past e.by (at stacks e.by)
  stack_of = s.each e.by (maker_known plan (is_playable plan closed) past e legal may)

  pub coming : e.kind ≡ kind.Arrive → Comes plan past e e.by e.place
  coming h = comes plan (is_playable plan closed).tree past e legal h (row_of plan past kind.Arrive e h may)

  pub room_to_come : e.kind ≡ kind.Arrive → length (at stacks e.by) < most_frames
  room_to_come h = room_for plan closed past e (at stacks e.by) (coming h) stack_of

  pub stepping : (value : Option ℤ) → is_step e.kind ≡ true → value_given e ≡ value → Steps plan past e e.by value
  stepping value w v = record { is = w; own = refl; here = step_here plan past e.kind e w may; gives = v }

  pub stands_there : inside plan past e.by ≡ Some e.place → is_none (top (at stacks e.by)) ≡ false
  stands_there here = some_frame plan past e.by e.place (at stacks e.by) here stack_of

  pub few_so_far : is_step e.kind ≡ true → IfSome (top (at stacks e.by)) (λ f. f.position < 2 ^ 32 - 1)
  few_so_far w = few_made plan closed past e (at stacks e.by) w may stack_of

  pub few_outside : inside plan past e.by ≡ Some e.place → IfSome (top (rest (at stacks e.by))) (λ f. f.position < 2 ^ 32 - 1)
  few_outside here = few_round plan closed past legal e.by e.place (at stacks e.by) here stack_of

-- ---- the kinds that leave the frames

abbrev pub unmoving : Kind → Bool
unmoving kind.Start = true
unmoving kind.PutFault = true
unmoving kind.Raise = true
unmoving kind.Inform = true
unmoving kind.Resolve = true
unmoving kind.Verdict = true
unmoving kind.Abort = true
unmoving kind.Undo = true
unmoving kind.Restore = true
unmoving kind.End = true
unmoving _ = false

-- where the frames of each participant stay those of it
all_stay : (plan : Plan) (past later : List Entry) → ((t : ℕ) → inside plan later t ≡ inside plan past t)
    → ((p t : ℕ) → position plan later p t ≡ position plan past p t) →
    ((p t : ℕ) → register plan later p t ≡ register plan past p t)
    → ((p t : ℕ) → has_handled later p t ≡ has_handled past p t)
    → (stacks : List (List Frame)) → StandsFor plan past stacks → StandsFor plan later stacks
all_stay plan past later places positions registers handlings stacks s = record {
  as_many = s.as_many;
  each = λ t l. record {
    places = (s.each t l).places ∙ ap (chain plan) (sym (places t));
    each = frames_stay_of t (at stacks t) (s.each t l).each;
  };
}
  where
    frames_stay_of : (t : ℕ) (fs : List Frame) → AreFramesOf plan past t fs → AreFramesOf plan later t fs
    frames_stay_of t [] h = tt
    frames_stay_of t (f ∷ fs) h = (
      record {
        position = h.0.position ∙ sym (positions f.place t);
        register = h.0.register ∙ sym (registers f.place t);
        handling = h.0.handling ∙ sym (handlings f.place t);
      },
      frames_stay_of t fs h.1,
    )

pub frames_stay : (plan : Plan) (past : List Entry) (k : Kind) (e : Entry) (stacks : List (List Frame)) → unmoving k ≡ true
    → StandsFor plan past stacks → StandsFor plan (of_kind k e ∷ past) stacks
frames_stay plan past kind.Start e stacks w s =
    all_stay plan past _ (λ t. refl) (λ p t. refl) (λ p t. refl) (λ p t. refl) stacks s
frames_stay plan past kind.PutFault e stacks w s =
    all_stay plan past _ (λ t. refl) (λ p t. refl) (λ p t. refl) (λ p t. refl) stacks s
frames_stay plan past kind.Raise e stacks w s =
    all_stay plan past _ (λ t. refl) (λ p t. refl) (λ p t. refl) (λ p t. refl) stacks s
frames_stay plan past kind.Inform e stacks w s =
    all_stay plan past _ (λ t. refl) (λ p t. refl) (λ p t. refl) (λ p t. refl) stacks s
frames_stay plan past kind.Resolve e stacks w s =
    all_stay plan past _ (λ t. refl) (λ p t. refl) (λ p t. refl) (λ p t. refl) stacks s
frames_stay plan past kind.Verdict e stacks w s =
    all_stay plan past _ (λ t. refl) (λ p t. refl) (λ p t. refl) (λ p t. refl) stacks s
frames_stay plan past kind.Abort e stacks w s =
    all_stay plan past _ (λ t. refl) (λ p t. refl) (λ p t. refl) (λ p t. refl) stacks s
frames_stay plan past kind.Undo e stacks w s = all_stay plan past _ (λ t. refl) (λ p t. refl) (λ p t. refl) (λ p t. refl) stacks s
frames_stay plan past kind.Restore e stacks w s =
    all_stay plan past _ (λ t. refl) (λ p t. refl) (λ p t. refl) (λ p t. refl) stacks s
frames_stay plan past kind.End e stacks w s = all_stay plan past _ (λ t. refl) (λ p t. refl) (λ p t. refl) (λ p t. refl) stacks s
frames_stay plan past _ e stacks w s = absurd (false≢true w)
