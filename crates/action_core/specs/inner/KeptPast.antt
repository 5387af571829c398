-- All that the tables keep, and the past that it stands for.
use Rattle.std.specs.Prelude.{List}
use Rattle.caa_base.specs.declared.written.entry.Entry.{Entry}
use Rattle.place_plan.specs.Plans.PlanValue.{Plan}
use Rattle.role_states.specs.declared.frame.Frame.{Frame}
use Rattle.role_states.specs.inner.Standing.{StandsFor as FramesStand}
use Rattle.object_versions.specs.declared.version.Version.{Version}
use Rattle.object_versions.specs.inner.KeptVersions.{StandsFor as VersionsStand}
use Rattle.resolution_core.specs.declared.recovery.Recovery.{Recovery}
use Rattle.resolution_core.specs.inner.Standing.{StandsFor as RecoveriesStand}
use Rattle.action_endings.specs.declared.ending.Ending.{Ending}
use Rattle.action_endings.specs.inner.KeptEndings.{StandsFor as EndingsStand}
use Rattle.action_core.specs.declared.stage.Stage.{Stage}
use Rattle.action_core.specs.declared.person.Person.{Person}
use Rattle.action_core.specs.inner.KeptStages.{StageOfEach}
use Rattle.action_core.specs.inner.KeptPeople.{PersonOfEach}

-- what the six tables keep
pub record Kept : Type 0 where
  pub frames : List (List Frame)
  pub versions : List Version
  pub recoveries : List Recovery
  pub endings : List Ending
  pub stages : List Stage
  pub people : List Person

-- each of them stands for the past
pub record StandsFor (plan : Plan) (past : List Entry) (kept : Kept) : Type 0 where
  pub frames : FramesStand plan past kept.frames
  pub versions : VersionsStand plan past kept.versions
  pub recoveries : RecoveriesStand plan past kept.recoveries
  pub endings : EndingsStand plan past kept.endings
  pub stages : StageOfEach plan past kept.stages
  pub people : PersonOfEach plan past kept.people
