use Rattle.std.proofs.Common.{rules, arith, ap, subst, sym, ◌∙◌, ℕ, ◌≡◌, ◌+◌, [], length, get_or}
use Rattle.std.proofs.lemmas.Grind.{common_steps}
use Rattle.std.proofs.lemmas.List.FromFn.{get_or-map-range_with_len, length-map-range_with_len}
use Rattle.action_manager.proofs.Gathered.{all_more, order_more}
use Rattle.action_manager.specs.OwnEntries.{entries_by}
use Rattle.action_manager.specs.inner.Turns.{maker}
use Rattle.action_manager.specs.Managers.{table_of, terms_in, handed_in}
use Rattle.action_manager.specs.Seats.{IsNewSeat, participant_of}
use Rattle.action_manager.proofs.manager.Manager.make_seats.Goals as goal

pub index-requires : goal.index-requires
index-requires g c =
    let count : ℕ → ℕ = λ t. length (entries_by t (g.M.Machine.journal_of (handed_in c.args.self.now))) in
    let long = ap length c.requires.counts ∙ length-map-range_with_len count 0 c.args.self.now.participants in
    grind (arith, common_steps)

pub make_seat-requires-clause-made : goal.make_seat-requires-clause-made
make_seat-requires-clause-made g c =
    let count : ℕ → ℕ = λ t. length (entries_by t (g.M.Machine.journal_of (handed_in c.args.self.now))) in
    let next = ap (λ m. m.0.next) c.loop-by.invariant.making in
    let same : 0 + c.loop-by.by ≡ c.loop-by.by = omega arith in
    let at =
    get_or-map-range_with_len count 0 c.args.self.now.participants c.loop-by.by c.loop-by.by c.index.result.now
    (search rules) same in
    c.index.ensures ∙ (ap (λ l. get_or l c.loop-by.by c.index.result.now) c.requires.counts ∙ (at ∙ ap count (sym next)))

pub loop-by-preserved : goal.loop-by-preserved
loop-by-preserved g c =
    let inv = c.loop-by.invariant in let manager = c.args.self.now in
    let terms = terms_in g.M.Machine.base_of manager in let journal = g.M.Machine.journal_of (handed_in manager) in
    let next : c.loop-by.making.me.0.next ≡ c.loop-by.by = ap (λ m. m.0.next) inv.making in
    let pushed = c.push_reserved.ensures in
    record {
      table = c.make_seat.ensures.table ∙ inv.table;
      making = subst (λ n. c.make_seat.new.making.me ≡ (maker terms (n + 1) journal, [])) next c.make_seat.ensures.making;
      room = (omega (arith, pushed.len, inv.room.0), pushed.capacity ∙ inv.room.1);
      order =
          order_more participant_of c.loop-by.seats.items c.make_seat.result c.push_reserved.new.self.items c.loop-by.by
          pushed.items inv.order (c.make_seat.ensures.who ∙ next);
      new =
          all_more (IsNewSeat (table_of manager) terms journal) c.loop-by.seats.items c.make_seat.result
          c.push_reserved.new.self.items pushed.items inv.new c.make_seat.ensures.new;
    }
