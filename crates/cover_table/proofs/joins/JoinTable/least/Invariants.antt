use Rattle.std.proofs.Common.{◌∷◌, take}
use Rattle.cover_table.specs.Cover.{IsLeastCover, order_of}
use Rattle.cover_table.proofs.joins.JoinTable.least.Given as goal

abbrev pub invariant-loop-member : goal.invariant-loop-member
invariant-loop-member g l = IsLeastCover (order_of l.self-inside.count l.self-inside.rows) (l.first ∷ take l.member-index l.rest) l.least
