-- What of its input a command reads.
use Rattle.std.specs.Prelude.{ℕ, List}
use Rattle.caa_base.specs.Written.Limits.{most_script_bytes, most_audit_bytes}
use Rattle.action_script.specs.Words.JournalStarts.{script_part}
use Rattle.caa_commands.specs.declared.command.Command.{Command}
use Rattle.caa_commands.specs.declared.command.Command.TheVariants as command

-- how many bytes the input of a command may have
abbrev pub most_bytes : Command → ℕ
most_bytes command.Audit = most_audit_bytes
most_bytes _ = most_script_bytes

-- which of the bytes that were read are the script
abbrev pub script_in : Command → List ℕ → List ℕ
script_in command.Audit bytes = script_part bytes
script_in _ bytes = bytes
