use Rattle.std.proofs.Common.{◌≡◌, ◌++◌, length, true}
use Rattle.name_uses.specs.Renamed.{are_in_order, replaced}
use Rattle.name_uses.proofs.renaming.replaced.Given as goal

abbrev pub invariant-loop-span : goal.invariant-loop-span
invariant-loop-span l = record {
  made : l.made.items ++ replaced l.text l.done l.rest l.word ≡ replaced l.text 0 l.spans l.word;
  order : are_in_order l.done (length l.text) l.rest ≡ true;
}

abbrev pub decreases-loop-span : goal.decreases-loop-span
decreases-loop-span l = length l.rest
