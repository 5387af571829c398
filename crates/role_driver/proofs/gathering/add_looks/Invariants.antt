use Rattle.std.proofs.Common.{◌≡◌, ◌++◌, length, map}
use Rattle.role_driver.specs.inner.Gathering.{look_of}
use Rattle.role_driver.proofs.LooksAdded.{kept}
use Rattle.role_driver.proofs.gathering.add_looks.Given as goal

abbrev pub invariant-loop-index : goal.invariant-loop-index
invariant-loop-index l = record {
  end : l.index-end ≡ length l.seen;
  looks : l.seens.seens ≡ l.fn.seens.seens ++ map (look_of l.watch) (kept l.seen l.last l.index);
  room : l.seens.room ≡ l.fn.seens.room;
}
