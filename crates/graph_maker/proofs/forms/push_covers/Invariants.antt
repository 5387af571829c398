use Rattle.std.proofs.Common.{◌≡◌, ◌++◌, map, take}
use Rattle.graph_maker.specs.MadeScripts.{cover_form}
use Rattle.graph_maker.proofs.forms.push_covers.Given as goal

abbrev pub invariant-loop-upper : goal.invariant-loop-upper
invariant-loop-upper l = l.forms.items ≡ l.fn.forms.items ++ map (cover_form l.numbers) (take l.upper-index l.pairs)
