use Rattle.std.proofs.Common.{◌≡◌, ◌++◌, map, take}
use Rattle.graph_maker.specs.SetNames.{set_name}
use Rattle.graph_maker.proofs.forms.push_made.Given as goal

abbrev pub invariant-loop-set : goal.invariant-loop-set
invariant-loop-set l = l.words.items ≡ l.fn.words.items ++ map (set_name l.primitives) (take l.set-index l.sets)
