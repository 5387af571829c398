use Rattle.std.proofs.Common.{◌≡◌, ◌+◌, ◌*◌, ◌≤◌, length}
use Rattle.message_resolution.specs.inner.Rows.{SettlesUpTo}
use Rattle.message_resolution.proofs.world.run.Run.settle.Given as goal

abbrev pub invariant-loop-message : goal.invariant-loop-message
invariant-loop-message l = record {
  order : l.self.order ≡ l.initial.self.order;
  count : l.self.count ≡ l.initial.self.count;
  room : l.self.event_room ≡ l.initial.self.event_room;
  long : length l.self.past ≤ length l.initial.self.past + l.message * l.initial.self.count;
  settles : SettlesUpTo l.initial.self.order l.initial.self.count l.initial.self.past l.self.past l.message 0;
}
