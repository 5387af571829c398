use Rattle.std.proofs.Common.{◌≡◌, take}
use Rattle.std.specs.Prelude.{filter}
use Rattle.name_uses.specs.Occurrences.{is_of}
use Rattle.name_uses.proofs.occurrences.of_thing.Given as goal

abbrev pub invariant-loop-occurrence : goal.invariant-loop-occurrence
invariant-loop-occurrence l = l.some.items ≡ filter (is_of l.thing) (take l.occurrence-index l.all)
