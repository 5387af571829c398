use Rattle.std.proofs.Common.{◌≡◌, vec_capacity, length}
use Rattle.message_resolution.specs.inner.Runs.{AreFreshNodes}
use Rattle.message_resolution.proofs.world.run.open_nodes.Given as goal

abbrev pub invariant-loop-me : goal.invariant-loop-me
invariant-loop-me l = record {
  many : length l.nodes.items ≡ l.me;
  room : vec_capacity l.nodes ≡ l.count;
  fresh : AreFreshNodes l.count l.nodes.items;
}
