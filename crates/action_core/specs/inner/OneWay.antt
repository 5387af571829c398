-- The tables stand for a past in one way at most.
use Rattle.std.proofs.Common.{◌≡◌, ◌<◌, ◌≤◌, ℕ, ℤ, Bool, List, [], ◌∷◌, Option, Some, None, refl}
use Rattle.std.specs.Coded.{Coded, Coded-set, coded_ℕ, coded_ℤ, coded_bool, coded_option, coded_list, coded×, code_by, ×_prop, Unit-prop}
use Rattle.std.proofs.Math.Bridge.{le_prop}
use Rattle.cover_table.specs.Cover.{CoverOrder}
use Rattle.core_words.specs.Joining.{IsCoverOf}
use Rattle.caa_base.specs.declared.written.entry.Entry.{Entry}
use Rattle.caa_base.specs.declared.written.entry.Outcome.{Outcome}
use Rattle.caa_base.specs.declared.written.entry.Outcome.TheVariants as outcome
use Rattle.caa_base.specs.declared.written.entry.Verdict.{Verdict}
use Rattle.caa_base.specs.declared.written.entry.Verdict.TheVariants as verdict
use Rattle.caa_base.specs.Written.Marks.{verdict_mark, verdict_of_mark, outcome_mark, outcome_of_mark}
use Rattle.place_plan.specs.Plans.PlanValue.{Plan}
use Rattle.role_states.specs.declared.frame.Frame.{Frame}
use Rattle.role_states.specs.inner.Standing.{AreFramesOf, StandsFor as FramesStand}
use Rattle.object_versions.specs.declared.version.Version.{Version}
use Rattle.object_versions.specs.inner.KeptVersions.{StandsFor as VersionsStand}
use Rattle.resolution_core.specs.declared.recovery.Recovery.{Recovery}
use Rattle.resolution_core.specs.inner.Standing.{StandsFor as RecoveriesStand}
use Rattle.action_endings.specs.declared.ending.Ending.{Ending}
use Rattle.action_endings.specs.inner.KeptEndings.{SignalsBelow, StandsFor as EndingsStand}
use Rattle.action_core.specs.declared.stage.Stage.{Stage}
use Rattle.action_core.specs.declared.person.Person.{Person}
use Rattle.action_core.specs.inner.KeptStages.{StageOfEach}
use Rattle.action_core.specs.inner.KeptPeople.{PersonOfEach}
use Rattle.action_core.specs.inner.KeptPast.{Kept, StandsFor as TablesStand}

-- ---- verdicts and outcomes are told by their marks

verdict_back : (v : Verdict) → verdict_of_mark (verdict_mark v).0 (verdict_mark v).1 ≡ v
verdict_back verdict.Done = refl
verdict_back (verdict.Signal x) = refl
verdict_back verdict.Undo = refl

outcome_back : (o : Outcome) → outcome_of_mark (outcome_mark o).0 (outcome_mark o).1 ≡ o
outcome_back outcome.Commit = refl
outcome_back (outcome.Signal x) = refl
outcome_back outcome.Undone = refl
outcome_back outcome.Aborted = refl
outcome_back outcome.Failed = refl

verdict_code : Coded Verdict
verdict_code = code_by (ℕ × ℕ) (coded× coded_ℕ coded_ℕ) verdict_mark (λ (m : ℕ × ℕ). verdict_of_mark m.0 m.1) verdict_back

outcome_code : Coded Outcome
outcome_code = code_by (ℕ × ℕ) (coded× coded_ℕ coded_ℕ) outcome_mark (λ (m : ℕ × ℕ). outcome_of_mark m.0 m.1) outcome_back

-- ---- equations

numbers-set : IsSet ℕ
numbers-set = Coded-set coded_ℕ

integers-set : IsSet ℤ
integers-set = Coded-set coded_ℤ

tests-set : IsSet Bool
tests-set = Coded-set coded_bool

options-set : IsSet (Option ℕ)
options-set = Coded-set (coded_option coded_ℕ)

lists-set : IsSet (List ℕ)
lists-set = Coded-set (coded_list coded_ℕ)

verdicts-set : IsSet (Option Verdict)
verdicts-set = Coded-set (coded_option verdict_code)

outcomes-set : IsSet (Option Outcome)
outcomes-set = Coded-set (coded_option outcome_code)

at_most-prop : {m n : ℕ} → IsProp (m ≤ n)
at_most-prop = le_prop

below-prop : {m n : ℕ} → IsProp (m < n)
below-prop = le_prop

ruleset sets = (numbers-set, integers-set, tests-set, options-set, lists-set, verdicts-set, outcomes-set, at_most-prop, below-prop)

-- ---- the tables

frames-prop : (plan : Plan) (past : List Entry) (t : ℕ) (fs : List Frame) → IsProp (AreFramesOf plan past t fs)
frames-prop plan past t [] = Unit-prop
frames-prop plan past t (f ∷ fs) = ×_prop (hlevel sets) (frames-prop plan past t fs)

cover-prop : (order : CoverOrder) (xs : List ℕ) (o : Option ℕ) → IsProp (IsCoverOf order xs o)
cover-prop order xs None = hlevel sets
cover-prop order xs (Some x) = hlevel sets

signals-prop : (n : ℕ) (v : Verdict) → IsProp (SignalsBelow n v)
signals-prop n verdict.Done = Unit-prop
signals-prop n (verdict.Signal x) = hlevel sets
signals-prop n verdict.Undo = Unit-prop

frames-stand-prop : (plan : Plan) (past : List Entry) (stacks : List (List Frame)) → IsProp (FramesStand plan past stacks)
frames-stand-prop plan past stacks = hlevel (sets, frames-prop)

versions-stand-prop : (plan : Plan) (past : List Entry) (versions : List Version) → IsProp (VersionsStand plan past versions)
versions-stand-prop plan past versions = hlevel sets

recoveries-stand-prop : (plan : Plan) (past : List Entry) (rows : List Recovery) → IsProp (RecoveriesStand plan past rows)
recoveries-stand-prop plan past rows = hlevel (sets, cover-prop)

endings-stand-prop : (plan : Plan) (past : List Entry) (endings : List Ending) → IsProp (EndingsStand plan past endings)
endings-stand-prop plan past endings = hlevel (sets, signals-prop)

stages-stand-prop : (plan : Plan) (past : List Entry) (stages : List Stage) → IsProp (StageOfEach plan past stages)
stages-stand-prop plan past stages = hlevel sets

people-stand-prop : (plan : Plan) (past : List Entry) (people : List Person) → IsProp (PersonOfEach plan past people)
people-stand-prop plan past people = hlevel sets

-- two proofs that the tables stand for a past are one, so this can be a ghost field
pub StandsFor-prop : (plan : Plan) (past : List Entry) (kept : Kept) → IsProp (TablesStand plan past kept)
StandsFor-prop plan past kept =
    hlevel (frames-stand-prop, versions-stand-prop, recoveries-stand-prop, endings-stand-prop, stages-stand-prop, people-stand-prop)
