use Rattle.std.proofs.Common.{◌≡◌, vec_len}
use Rattle.shared_views.proofs.bulletin.Bulletin.open.Given as goal

abbrev pub invariant-loop : goal.invariant-loop
invariant-loop l = vec_len l.told ≡ l.counter
