use Rattle.std.proofs.Common.{◌≡◌, ◌++◌, drop}
use Rattle.caa_base.specs.Written.Lines.{spaced}
use Rattle.caa_commands.proofs.fault.push_names.Given as goal

abbrev pub invariant-loop-name : goal.invariant-loop-name
invariant-loop-name l = l.text.items ++ spaced (drop l.name-index l.names) ≡ l.initial.text.items ++ spaced l.names
