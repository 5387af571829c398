use Rattle.std.proofs.Common.{◌≡◌, length, All}
use Rattle.role_driver.proofs.flag.lowered_flags.Given as goal

abbrev pub invariant-loop-made : goal.invariant-loop-made
invariant-loop-made g l = record {
  count : length l.flags.items ≡ l._made;
  lowered : All g.F.Flag.began_lowered l.flags.items;
}
