use Rattle.std.proofs.Common.{◌≡◌, drop}
use Rattle.name_uses.specs.Renamed.{are_renamed}
use Rattle.name_uses.proofs.renaming.are_renamed.Given as goal

abbrev pub invariant-loop-before : goal.invariant-loop-before
invariant-loop-before l =
    are_renamed l.thing l.word l.names l.others (drop l.before-index l.old) l.rest
    ≡ are_renamed l.thing l.word l.names l.others l.old l.new
