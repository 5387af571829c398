-- The journal that the frames of all participants stand for, and what an entry does to those of its maker.
use Rattle.std.specs.Prelude.{◌≡◌, ◌⊎◌, ℕ, ℤ, pos, ◌==◌, ◌<◌, Bool, true, false, if◌then◌else◌, List, [], ◌∷◌, Option, Some, None, length, map}
use Rattle.caa_base.specs.declared.written.entry.Entry.{Entry}
use Rattle.caa_base.specs.declared.written.entry.Kind.{Kind}
use Rattle.caa_base.specs.declared.written.entry.Kind.TheVariants as kind
use Rattle.caa_base.specs.Written.Lists.{member}
use Rattle.place_plan.specs.Plans.PlanValue.{Plan}
use Rattle.place_plan.specs.Plans.Places.{around, parent}
use Rattle.place_plan.specs.RulesOfJournals.Whereabouts.{inside, is_left_in_silence}
use Rattle.place_plan.specs.RulesOfJournals.Raising.{has_handled}
use Rattle.place_plan.specs.RulesOfJournals.Roles.{position, register, gives_value}
use Rattle.role_states.specs.declared.frame.Frame.{Frame}
use Rattle.role_states.specs.inner.Stacks.{at}

-- the place, and those round it
abbrev pub chain : Plan → Option ℕ → List ℕ
chain plan None = []
chain plan (Some p) = p ∷ around plan p

-- round a place stand the place right round it and those round that, and no place stands round itself
pub record NestsWell (plan : Plan) : Type 0 where
  pub up : (p : ℕ) → chain plan (parent plan p) ≡ around plan p
  pub above : (p q : ℕ) → member q (around plan p) ≡ true → (p == q) ≡ false

-- ---- the journal that they stand for

-- the frame is that of t in its place
pub record IsFrameOf (plan : Plan) (past : List Entry) (t : ℕ) (f : Frame) : Type 0 where
  pub position : f.position ≡ position plan past f.place t
  pub register : f.register ≡ register plan past f.place t
  pub handling : f.handling ≡ has_handled past f.place t

-- so is each of these
abbrev pub AreFramesOf : Plan → List Entry → ℕ → List Frame → Type 0
AreFramesOf plan past t [] = Unit {0}
AreFramesOf plan past t (f ∷ fs) = IsFrameOf plan past t f × AreFramesOf plan past t fs

-- the frames of t are those of the places that it is in, from the innermost to its play
pub record IsStackOf (plan : Plan) (past : List Entry) (t : ℕ) (frames : List Frame) : Type 0 where
  pub places : map (λ (f : Frame). f.place) frames ≡ chain plan (inside plan past t)
  pub each : AreFramesOf plan past t frames

-- the frames are those of all participants by the past
pub record StandsFor (plan : Plan) (past : List Entry) (stacks : List (List Frame)) : Type 0 where
  pub as_many : length stacks ≡ length plan.participants
  pub each : (t : ℕ) → t < length plan.participants → IsStackOf plan past t (at stacks t)

-- t is in no place, or this is its frame in the innermost one that it is in
abbrev pub IsInnermost : Plan → List Entry → ℕ → Option Frame → Type 0
IsInnermost plan past t None = inside plan past t ≡ None
IsInnermost plan past t (Some f) = (inside plan past t ≡ Some f.place) × IsFrameOf plan past t f

-- ---- what an entry does

-- the entry is an arrival of t in p, which leads there from the innermost place that t is in; t has done nothing in p yet
pub record Comes (plan : Plan) (past : List Entry) (e : Entry) (t p : ℕ) : Type 0 where
  pub is : e.kind ≡ kind.Arrive
  pub own : e.by ≡ t
  pub there : e.place ≡ p
  pub leads : around plan e.place ≡ chain plan (inside plan past e.by)
  pub unstepped : position plan past e.place e.by ≡ 0
  pub unread : register plan past e.place e.by ≡ pos 0
  pub unhandled : has_handled past e.place e.by ≡ false

-- the kinds of entry that are steps of their maker in their place
abbrev pub is_step : Kind → Bool
is_step kind.Read = true
is_step kind.Work = true
is_step kind.Write = true
is_step kind.Check = true
is_step _ = false

-- the value that an entry gives to the register of its maker, if it gives one
abbrev pub value_given : Entry → Option ℤ
value_given e = if gives_value e.kind then Some e.value else None

-- the entry is a step of t in the innermost place that it is in, and gives its register this value, or none
pub record Steps (plan : Plan) (past : List Entry) (e : Entry) (t : ℕ) (value : Option ℤ) : Type 0 where
  pub is : is_step e.kind ≡ true
  pub own : e.by ≡ t
  pub here : inside plan past e.by ≡ Some e.place
  pub gives : value_given e ≡ value

-- with the entry t begins its handler in the innermost place that it is in
pub record BeginsHandler (plan : Plan) (past : List Entry) (e : Entry) (t : ℕ) : Type 0 where
  pub is : e.kind ≡ kind.Handle
  pub own : e.by ≡ t
  pub here : inside plan past e.by ≡ Some e.place

-- with the entry t withdraws from the innermost place that it is in, or leaves it in silence
pub record GoesOut (plan : Plan) (past : List Entry) (e : Entry) (t : ℕ) : Type 0 where
  pub is : (e.kind ≡ kind.Withdraw) ⊎ ((e.kind ≡ kind.Leave) × (is_left_in_silence plan past e.place ≡ true))
  pub own : e.by ≡ t
  pub here : inside plan past e.by ≡ Some e.place

-- with the entry t leaves the innermost place that it is in, and not in silence
pub record ComesBack (plan : Plan) (past : List Entry) (e : Entry) (t : ℕ) : Type 0 where
  pub is : e.kind ≡ kind.Leave
  pub own : e.by ≡ t
  pub here : inside plan past e.by ≡ Some e.place
  pub aloud : is_left_in_silence plan past e.place ≡ false
