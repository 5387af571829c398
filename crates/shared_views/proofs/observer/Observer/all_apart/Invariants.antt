use Rattle.std.proofs.Common.{◌≡◌, replicate}
use Rattle.shared_views.specs.Committing.{unplaced}
use Rattle.shared_views.proofs.observer.Observer.all_apart.Given as goal

abbrev pub invariant-loop : goal.invariant-loop
invariant-loop l = l.observers.items ≡ replicate l.counter (unplaced l.initials l.publications)
