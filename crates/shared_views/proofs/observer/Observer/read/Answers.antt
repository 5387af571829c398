use Rattle.shared_views.proofs.BoardSteps.{looks}
use Rattle.shared_views.proofs.observer.Observer.read.Goals as goal

pub enter_as-requires : goal.enter_as-requires
enter_as-requires c x = looks _ _ x
