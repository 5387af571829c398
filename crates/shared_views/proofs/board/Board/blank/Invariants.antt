use Rattle.std.proofs.Common.{◌≡◌, None, replicate}
use Rattle.shared_views.proofs.board.Board.blank.Given as goal

abbrev pub invariant-loop : goal.invariant-loop
invariant-loop l = l.given.items ≡ replicate l.counter None
