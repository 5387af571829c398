use Rattle.std.proofs.Common.{take}
use Rattle.object_versions.specs.inner.ChangedVersions.{held_by, ChangesEach}
use Rattle.object_versions.proofs.versions.Versions.give_all.Given as goal

abbrev pub invariant-loop-object : goal.invariant-loop-object
invariant-loop-object l = ChangesEach (take l.object-index l.object-items) (held_by l.outer) l.initial.self l.self
