use Rattle.std.proofs.Common.{◌≡◌, ◌<◌, ◌≤◌, ◌^◌, length}
use Rattle.caa_base.specs.Written.Mixing.{state_after}
use Rattle.message_plays.specs.Turns.{after_turns}
use Rattle.message_plays.specs.inner.WorldOfPlan.{IsWorldOf}
use Rattle.message_plays.proofs.turns.take_turns.Given as goal

abbrev pub invariant-loop-turn : goal.invariant-loop-turn
invariant-loop-turn l = record {
  world : IsWorldOf l.plan l.world;
  room : l.world.room ≡ l.initial.world.room;
  past : l.world.past ≡ after_turns l.plan l.seed l._turn;
  long : length l.world.past ≤ l._turn;
  small : l.state < 2 ^ 31;
  state : l.state ≡ state_after l.seed l._turn;
}
