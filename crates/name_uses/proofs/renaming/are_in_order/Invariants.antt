use Rattle.std.proofs.Common.{◌≡◌, length}
use Rattle.name_uses.specs.Renamed.{are_in_order}
use Rattle.name_uses.proofs.renaming.are_in_order.Given as goal

abbrev pub invariant-loop-span : goal.invariant-loop-span
invariant-loop-span l = are_in_order l.done l.count l.rest ≡ are_in_order 0 l.count l.spans

abbrev pub decreases-loop-span : goal.decreases-loop-span
decreases-loop-span l = length l.rest
