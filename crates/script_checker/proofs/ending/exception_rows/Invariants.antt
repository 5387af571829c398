use Rattle.std.proofs.Common.{◌≡◌, map, take}
use Rattle.script_checker.specs.Compiled.{exception_name}
use Rattle.script_checker.proofs.ending.exception_rows.Given as goal

abbrev pub invariant-loop-exception : goal.invariant-loop-exception
invariant-loop-exception l = l.rows.items ≡ map (exception_name l.names) (take l.exception-index l.exceptions)
