use Rattle.std.proofs.Common.{ℕ, ◌≤◌, reverse, take}
use Rattle.interlock_rules.specs.Interlocks.{Breaks, past_after}
use Rattle.interlock_rules.specs.inner.Watched.{object_of, Watches}
use Rattle.interlock_rules.proofs.monitor.first_break.Given as goal

abbrev pub invariant-loop-index : goal.invariant-loop-index
invariant-loop-index l = record {
  stands : Watches l.rule.parts (object_of l.rule.when) l.plan (reverse (take l.index l.entries)) l.watch.fits.items l.watch.sure;
  kept : (m : ℕ) → m ≤ l.index → Breaks l.rule l.plan (past_after l.entries m) → ⊥;
}
