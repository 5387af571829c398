use Rattle.cover_table.proofs.joins.JoinTable.is_sound.Goals as goal

pub returns-clause-sound : goal.returns-clause-sound
returns-clause-sound g c = rw (← c.self.view_is) (record {
  is_order = c.self.invariant.is_order;
  pairs = λ a b a_in b_in. (_, c.self.invariant.least a b a_in b_in);
})
