use Rattle.std.proofs.Common.{◌≡◌, length, map, take}
use Rattle.role_driver.proofs.watch_room.WatchRoom.blanks.Given as goal

abbrev pub invariant-loop-watch : goal.invariant-loop-watch
invariant-loop-watch l = record {
  end : l.watch-end ≡ length l.plan.watches;
  blanks : map (λ b. b.object) l.blanks.items ≡ take l.watch l.plan.watches;
}
