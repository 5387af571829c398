-- What counts as usual is what some play without a fault did.
use Rattle.std.specs.Prelude.{◌≡◌, ◌⊎◌, ℕ, ℤ, true, List, [], ◌∷◌, ◌++◌, Some, slice_get, take}
use Rattle.std.specs.List.{All, Contains}
use Rattle.caa_base.specs.declared.written.entry.Entry.{Entry}
use Rattle.place_plan.specs.Plans.PlanValue.{Plan}
use Rattle.place_plan.specs.Plans.Places.{initials_of}
use Rattle.place_plan.specs.RulesOfJournals.Journals.{ends_play}
use Rattle.rehearsals.specs.Facts.{value_in, values_after}
use Rattle.fault_trials.specs.Classes.{Measure}
use Rattle.fault_trials.specs.declared.measure.Left.{Left}
use Rattle.fault_trials.specs.declared.measure.Way.{Way}
use Rattle.fault_trials.specs.declared.trials.Base.{Base}

-- the entry ends the play that is spoken of, and the object has this value then
pub record IsLeftBy (plan : Plan) (e : Entry) (values : List ℤ) (left : Left) : Type 0 where
  pub ends : ends_play plan e ≡ true
  pub play : left.play ≡ e.place
  pub value : left.value ≡ value_in values left.object

-- the entry ends the play that is spoken of, and so
pub record IsWayBy (plan : Plan) (e : Entry) (way : Way) : Type 0 where
  pub ends : ends_play plan e ≡ true
  pub play : way.play ≡ e.place
  pub mark : way.mark ≡ e.mark
  pub exception : way.exception ≡ e.arg

-- when the play ended in this journal the object had this value
pub record IsLeftIn (plan : Plan) (journal : List Entry) (left : Left) : Type 0 where
  pub index : ℕ
  pub ending : Entry
  pub stands : slice_get journal index ≡ Some ending
  pub so : IsLeftBy plan ending (values_after (initials_of plan) (take index journal)) left

-- the play ended so in this journal
pub record IsWayIn (plan : Plan) (journal : List Entry) (way : Way) : Type 0 where
  pub index : ℕ
  pub ending : Entry
  pub stands : slice_get journal index ≡ Some ending
  pub so : IsWayBy plan ending way

-- it is so in one of these journals
pub record IsInOne {T : Type 0} (P : List Entry → T → Type 0) (bases : List Base) (x : T) : Type 0 where
  pub base : Base
  pub among : Contains bases base
  pub so : P base.journal.entries x

-- each value and each end that counts as usual is of one of these journals
pub record IsMeasured (plan : Plan) (m : Measure) (bases : List Base) : Type 0 where
  pub lefts : All (IsInOne (IsLeftIn plan) bases) m.lefts
  pub ways : All (IsInOne (IsWayIn plan) bases) m.ways

-- it was added at the end, unless all stayed as it was
abbrev pub IsAddedOnce : {T : Type 0} → List T → List T → T → Type 0
IsAddedOnce old new x = (new ≡ old) ⊎ (new ≡ old ++ x ∷ [])

-- what was added at the end, if anything, is so
pub record GrewBy {T : Type 0} (P : T → Type 0) (old new : List T) : Type 0 where
  pub more : List T
  pub added : new ≡ old ++ more
  pub each : All P more
