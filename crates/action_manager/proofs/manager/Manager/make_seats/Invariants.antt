use Rattle.std.proofs.Common.{◌≡◌, [], map, All, vec_capacity, vec_len}
use Rattle.std.specs.List.{range_with_len}
use Rattle.action_manager.specs.inner.Turns.{maker}
use Rattle.action_manager.specs.Managers.{table_of, terms_in, handed_in}
use Rattle.action_manager.specs.Seats.{IsNewSeat, participant_of}
use Rattle.action_manager.proofs.manager.Manager.make_seats.Given as goal

abbrev pub invariant-loop-by : goal.invariant-loop-by
invariant-loop-by g l =
    let journal = g.M.Machine.journal_of (handed_in l.self) in let terms = terms_in g.M.Machine.base_of l.self in
    record {
      table : l.making.table_id ≡ table_of l.self;
      making : l.making.me ≡ (maker terms l.by journal, []);
      room : (vec_len l.seats ≡ l.by) × (vec_capacity l.seats ≡ l.self.participants);
      order : map participant_of l.seats.items ≡ range_with_len 0 l.by;
      new : All (λ s. IsNewSeat (table_of l.self) terms journal s) l.seats.items;
    }
