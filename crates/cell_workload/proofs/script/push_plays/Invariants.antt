use Rattle.std.proofs.Common.{◌≡◌, ◌-◌, ◌++◌, map}
use Rattle.std.specs.List.{range_with_len}
use Rattle.cell_workload.specs.CellScript.{play_line}
use Rattle.cell_workload.proofs.script.push_plays.Given as goal

abbrev pub invariant-loop-cycle : goal.invariant-loop-cycle
invariant-loop-cycle l = l.forms.items ≡ l.fn.forms.items ++ map play_line (range_with_len 1 (l.cycle - 1))
