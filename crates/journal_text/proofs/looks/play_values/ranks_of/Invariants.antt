use Rattle.std.proofs.Common.{◌≡◌, ℕ, ◌+◌, nat_eq, length, drop, unwrap_or}
use Rattle.std.specs.HashMap.{get}
use Rattle.caa_base.specs.Written.Lists.{index_of}
use Rattle.journal_text.proofs.looks.play_values.ranks_of.Given as goal

abbrev pub invariant-loop-index : goal.invariant-loop-index
invariant-loop-index l = (p : ℕ) → unwrap_or (get nat_eq l.ranks p) (length l.ended) ≡ l.index + index_of p (drop l.index l.ended)
