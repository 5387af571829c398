use Rattle.std.proofs.Common.{◌≡◌, ◌++◌, take, reverse}
use Rattle.std.specs.List.{flat_map}
use Rattle.message_plays.specs.Texts.{event_line}
use Rattle.message_plays.proofs.texts.write_events.Given as goal

abbrev pub invariant-loop-index : goal.invariant-loop-index
invariant-loop-index l = l.text.items ≡ l.initial.text.items ++ flat_map (event_line l.plan) (take l.index (reverse l.world.past))
