use Rattle.std.proofs.Common.{◌≡◌, take}
use Rattle.script_checker.proofs.number_list.NumberList.from_slice.Given as goal

abbrev pub invariant-loop-name : goal.invariant-loop-name
invariant-loop-name l = l.list ≡ take l.name-index l.names
