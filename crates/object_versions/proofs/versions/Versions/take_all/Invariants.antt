use Rattle.std.proofs.Common.{take}
use Rattle.object_versions.specs.inner.ChangedVersions.{taken, ChangesEach}
use Rattle.object_versions.proofs.versions.Versions.take_all.Given as goal

abbrev pub invariant-loop-object : goal.invariant-loop-object
invariant-loop-object l = ChangesEach (take l.object-index l.object-items) (taken l.place l.depth) l.initial.self l.self
