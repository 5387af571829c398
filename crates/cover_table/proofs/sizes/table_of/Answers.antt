use Rattle.cover_table.proofs.sizes.table_of.Goals as goal

pub returns-clause-no_least : goal.returns-clause-no_least
returns-clause-no_least g c = rw c.padded.ensures at c.from_order.ensures.no_least
