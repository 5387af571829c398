-- Whatever a call comes to, its device is one that was made with the same.
use Rattle.std.proofs.Common.{◌≡◌, ◌⊎◌, ℕ, List, inl, inr}
use Rattle.place_plan.specs.Plans.PlanValue.{Plan}
use Rattle.caa_commands.specs.declared.command.Command.{Command}
use Rattle.caa_commands.specs.declared.command.Command.TheVariants as command
use Rattle.caa_commands.specs.declared.finding.Finding.{Finding}
use Rattle.caa_commands.specs.declared.finding.Finding.TheVariants as finding
use Rattle.caa_commands.specs.declared.status.Status.{Status}
use Rattle.caa_commands.specs.OutsideUse.{SinkUse, Left, Call}
use Rattle.caa_commands.specs.Calls.{CheckComesTo, Prints, DoesNotBegin, AuditComesTo, PlanComesTo, IsNotServed, InputComesTo, IsWorked, IsNotWorked, CellComesTo, CameTo, with_journal}
use Rattle.caa_commands.specs.Logging.{LogAnswers}

-- the device was made with what it was made with before
abbrev pub KeepsConstants : {P : Type 0} → Left P → Type 0
KeepsConstants left = left.plant.constants ≡ left.plant.constants_before

-- a device that is as it was was made with the same
abbrev pub IsSteady : {P : Type 0} → Left P → Type 0
IsSteady left = left.plant.after ≡ left.plant.before → KeepsConstants left

module _ {P : Type 0} (left : Left P) (steady : IsSteady left) where
  unbegun : (plan : Plan) (found : Finding) → DoesNotBegin plan found left → KeepsConstants left
  unbegun plan finding.PlantFault h = h.1.tells.constants
  unbegun plan finding.OutOfMemory h = h.1.tells.constants
  unbegun plan _ h = absurd h

  checked : (plan : Plan) (found : Finding) → CheckComesTo plan found left → KeepsConstants left
  checked plan (finding.Checked counts) h = steady h.1.plant
  checked plan _ h = absurd h

  printed : (holds : List ℕ → Type 0) (found : Finding) → Prints holds found left → KeepsConstants left
  printed holds (finding.Printed text) h = steady h.1.plant
  printed holds finding.OutOfMemory h = steady h.plant
  printed holds _ h = absurd h

  audited : (plan : Plan) (bytes : List ℕ) (found : Finding) → AuditComesTo plan bytes found left → KeepsConstants left
  audited plan bytes (finding.Legal entries) h = steady h.plant
  audited plan bytes (finding.Illegal line) h = steady h.1.plant
  audited plan bytes (finding.Refused refusal) h = steady h.1.plant
  audited plan bytes finding.OutOfMemory h = steady h.plant
  audited plan bytes _ h = absurd h

  pub by_plan : (c : Command) (plan : Plan) (bytes : List ℕ) (found : Finding) → PlanComesTo c plan bytes found left → KeepsConstants left
  by_plan command.Check plan bytes found h = checked plan found h
  by_plan (command.Sim seed) plan bytes found (inl h) = h.0.played.tells.constants
  by_plan (command.Sim seed) plan bytes found (inr h) = unbegun plan found h
  by_plan command.Run plan bytes found (inl h) = h.played.tells.constants
  by_plan command.Run plan bytes found (inr h) = unbegun plan found h
  by_plan command.Audit plan bytes found h = audited plan bytes found h
  by_plan (command.Graph most) plan bytes found h = absurd h
  by_plan (command.Messages seed) plan bytes found h = printed _ found h
  by_plan (command.Pool workers) plan bytes found (inl h) = h.played.tells.constants
  by_plan (command.Pool workers) plan bytes found (inr h) = unbegun plan found h
  by_plan (command.Cell cycles) plan bytes found h = absurd h

  unserved : (c : Command) (bytes : List ℕ) (found : Finding) → IsNotServed c bytes found left → KeepsConstants left
  unserved c bytes (finding.Refused refusal) h = steady h.1.plant
  unserved c bytes finding.OutOfMemory h = steady h.plant
  unserved c bytes _ h = absurd h

  by_input : (c : Command) (bytes : List ℕ) (found : Finding) → InputComesTo c bytes found left → KeepsConstants left
  by_input c bytes found (inl h) = by_plan c h.plan bytes found h.comes
  by_input c bytes found (inr (inl h)) = unserved c bytes found h
  by_input c bytes found (inr (inr h)) = printed _ found h.prints

  by_cell : (cycles : ℕ) (plan : Plan) (found : Finding) → CellComesTo plan cycles found left → KeepsConstants left
  by_cell cycles plan found (inl h) = h.0.played.tells.constants
  by_cell cycles plan found (inr h) = unbegun plan found h

  worked : (cycles : ℕ) (found : Finding) → IsWorked cycles found left ⊎ IsNotWorked found left → KeepsConstants left
  worked cycles found (inl h) = by_cell cycles h.plan found h.comes
  worked cycles finding.OutOfMemory (inr h) = steady h.plant
  worked cycles _ (inr h) = absurd h

module _ {P : Type 0} where
  came : (call : Call P) (found : Finding) → IsSteady call.left → CameTo call found → KeepsConstants call.left
  came call found steady (inl h) = steady h.idle.plant
  came call found steady (inr (inl h)) = worked call.left steady h.cycles found h.comes
  came call found steady (inr (inr (inl h))) = steady h.idle.plant
  came call found steady (inr (inr (inr h))) = by_input call.left steady h.command h.bytes found h.comes

  -- a call with a log
  pub keeps_constants : (call : Call P) (sink : SinkUse) (answer : Status) → IsSteady call.left → LogAnswers call sink answer
      → KeepsConstants call.left
  keeps_constants call sink answer steady (inl h) = came (with_journal call h.journal) h.finding steady h.came
  keeps_constants call sink answer steady (inr (inl h)) =
      by_plan call.left steady h.command h.plan h.bytes finding.OutOfMemory h.comes
  keeps_constants call sink answer steady (inr (inr h)) = came call finding.OutOfMemory steady h.came
