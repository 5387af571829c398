use Rattle.std.proofs.Common.{refl}
use Rattle.cover_table.proofs.sizes.boxed_of.Goals as goal

pub returns-in-Err-clause-refused : goal.returns-in-Err-clause-refused
returns-in-Err-clause-refused g c = (c.in-Err.ensures.no_least _ _).0 refl
