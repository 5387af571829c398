use Rattle.std.proofs.Common.{◌≡◌, ℕ, true, false, take}
use Rattle.cover_table.specs.Cover.{has_bit}
use Rattle.caa_base.specs.Written.Lists.{member}
use Rattle.action_manager.proofs.sleepers.without_all.Given as goal

abbrev pub invariant-loop-by : goal.invariant-loop-by
invariant-loop-by l = record {
  kept : (t : ℕ) → has_bit l.left t ≡ true → (has_bit l.crew t ≡ true) × (member t (take l.by-index l.roles) ≡ false);
}
