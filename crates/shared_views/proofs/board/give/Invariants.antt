use Rattle.std.proofs.Common.{◌≡◌, fold, take}
use Rattle.shared_views.specs.inner.Boards.{row_after}
use Rattle.shared_views.proofs.board.give.Given as goal

abbrev pub invariant-loop-change : goal.invariant-loop-change
invariant-loop-change l = l.given.items ≡ fold row_after l.initial.given.items (take l.change-index l.changes)
