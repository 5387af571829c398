use Rattle.std.proofs.Common.{◌≡◌, ◌++◌, map, take}
use Rattle.caa_base.specs.Written.Names.{name_at}
use Rattle.graph_maker.proofs.forms.push_named.Given as goal

abbrev pub invariant-loop-number : goal.invariant-loop-number
invariant-loop-number l = l.words.items ≡ l.fn.words.items ++ map (name_at l.names) (take l.number-index l.numbers)
