use Rattle.std.proofs.Common.{◌≡◌}
use Rattle.graph_maker.specs.SetNames.{made_name, member_list}
use Rattle.graph_maker.proofs.set_names.set_name.Given as goal

abbrev pub invariant-loop-bit : goal.invariant-loop-bit
invariant-loop-bit l = l.text.items ≡ made_name (member_list l.bit l.set)
