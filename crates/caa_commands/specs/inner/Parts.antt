-- Which command each part of them is.
use Rattle.caa_commands.specs.declared.command.Command.{Command}
use Rattle.caa_commands.specs.declared.command.Command.TheVariants as command
use Rattle.caa_commands.specs.declared.command.Quiet.{Quiet}
use Rattle.caa_commands.specs.declared.command.Quiet.TheVariants as quiet
use Rattle.caa_commands.specs.declared.command.OverInput.{OverInput}
use Rattle.caa_commands.specs.declared.command.OverInput.TheVariants as input
use Rattle.caa_commands.specs.declared.command.OverPlan.{OverPlan}
use Rattle.caa_commands.specs.declared.command.OverPlan.TheVariants as plan
use Rattle.caa_commands.specs.declared.command.Threaded.{Threaded}
use Rattle.caa_commands.specs.declared.command.Threaded.TheVariants as threaded

-- one over a plan
abbrev pub plan_command : OverPlan → Command
plan_command (plan.Sim seed) = command.Sim seed
plan_command plan.Audit = command.Audit
plan_command (plan.Messages seed) = command.Messages seed

-- one over an input
abbrev pub input_command : OverInput → Command
input_command input.Check = command.Check
input_command (input.Graph most) = command.Graph most
input_command (input.OverPlan c) = plan_command c

-- one that needs no threads
abbrev pub quiet_command : Quiet → Command
quiet_command (quiet.Cell cycles) = command.Cell cycles
quiet_command (quiet.OverInput c) = input_command c

-- one that needs them
abbrev pub threaded_command : Threaded → Command
threaded_command threaded.Run = command.Run
threaded_command (threaded.Pool workers) = command.Pool workers
