use Rattle.std.proofs.Common.{◌==◌, length}
use Rattle.std.specs.List.{slice_split}
use Rattle.graph_maker.proofs.Ascending.{IsAscending}
use Rattle.graph_maker.proofs.set_names.are_members.Given as goal

abbrev pub invariant-loop-word : goal.invariant-loop-word
invariant-loop-word l = IsAscending l.primitives (slice_split (λ b. b == 45) l.text) (length l.yielded) l.count l.last
