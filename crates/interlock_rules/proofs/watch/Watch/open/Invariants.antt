use Rattle.std.proofs.Common.{◌≡◌, [], map, take}
use Rattle.interlock_rules.specs.inner.Watched.{may_fit}
use Rattle.interlock_rules.proofs.watch.Watch.open.Given as goal

abbrev pub invariant-loop-part : goal.invariant-loop-part
invariant-loop-part l = l.fits.items ≡ map (may_fit l.plan []) (take l.part-index l.parts)
