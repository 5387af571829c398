use Rattle.std.proofs.Common.{◌≡◌, take}
use Rattle.std.specs.List.{filter}
use Rattle.cover_table.specs.Cover.{covers}
use Rattle.reach_tables.proofs.endings.covered.Given as goal

abbrev pub invariant-loop-one : goal.invariant-loop-one
invariant-loop-one l = l.those.items ≡ filter (covers l.graph l.exception) (take l.one-index l.raised)
