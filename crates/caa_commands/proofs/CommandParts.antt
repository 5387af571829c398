-- What each part of the commands reads.
use Rattle.std.proofs.Common.{◌≡◌, true, refl}
use Rattle.caa_base.specs.Written.Limits.{most_script_bytes}
use Rattle.caa_commands.specs.declared.command.OverInput.{OverInput}
use Rattle.caa_commands.specs.declared.command.OverInput.TheVariants as input
use Rattle.caa_commands.specs.declared.command.OverPlan.TheVariants as plan
use Rattle.caa_commands.specs.declared.command.Threaded.{Threaded}
use Rattle.caa_commands.specs.declared.command.Threaded.TheVariants as threaded
use Rattle.caa_commands.specs.Commands.{reads_input}
use Rattle.caa_commands.specs.Inputs.{most_bytes}
use Rattle.caa_commands.specs.inner.Parts.{input_command, threaded_command}

-- one over an input reads it
pub input_reads : (c : OverInput) → reads_input (input_command c) ≡ true
input_reads input.Check = refl
input_reads (input.Graph most) = refl
input_reads (input.OverPlan (plan.Sim seed)) = refl
input_reads (input.OverPlan plan.Audit) = refl
input_reads (input.OverPlan (plan.Messages seed)) = refl

-- so does one in threads
pub threaded_reads : (c : Threaded) → reads_input (threaded_command c) ≡ true
threaded_reads threaded.Run = refl
threaded_reads (threaded.Pool workers) = refl

-- its input is a script
pub threaded_most : (c : Threaded) → most_bytes (threaded_command c) ≡ most_script_bytes
threaded_most threaded.Run = refl
threaded_most (threaded.Pool workers) = refl
