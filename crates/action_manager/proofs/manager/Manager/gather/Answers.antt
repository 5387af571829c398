use Rattle.std.proofs.Common.{◌∙◌, ap, subst, ◌++◌, map, reverse, All}
use Rattle.action_manager.specs.inner.Turns.{held, both_of}
use Rattle.action_manager.specs.Managers.{table_of, terms_in}
use Rattle.action_manager.specs.Seats.{IsSeatOf, stand}
use Rattle.action_manager.proofs.Gathered.{all_split, held_more}
use Rattle.action_manager.proofs.manager.Manager.gather.Goals as goal

pub take_in-requires-clause-table : goal.take_in-requires-clause-table
take_in-requires-clause-table g c =
    let manager = c.args.self.now in let terms = terms_in g.M.Machine.base_of manager in
    let inv = c.loop-seat.invariant in let seat = c.in-Some.seat in
    let each =
    all_split (IsSeatOf (table_of manager) terms) c.pop.new.self.items seat
    (subst (All (IsSeatOf (table_of manager) terms)) c.in-Some.ensures.items inv.others) in
    let mine : IsSeatOf (table_of manager) terms seat = each.1 in
    let is = c.into_token.ensures in
    (inv.table, ap (λ t. t.table_id) is ∙ mine.here, ap (λ t. t.me.1) is ∙ ap (λ m. m.1) mine.rests)

pub take_in-requires-clause-other : goal.take_in-requires-clause-other
take_in-requires-clause-other g c =
    let manager = c.args.self.now in let terms = terms_in g.M.Machine.base_of manager in
    let inv = c.loop-seat.invariant in let seat = c.in-Some.seat in
    let each =
    all_split (IsSeatOf (table_of manager) terms) c.pop.new.self.items seat
    (subst (All (IsSeatOf (table_of manager) terms)) c.in-Some.ensures.items inv.others) in
    let mine : IsSeatOf (table_of manager) terms seat = each.1 in let rests = mine.rests in
    let is = c.into_token.ensures in (
      ap (λ t. t.me.0.seated) is ∙ ap (λ m. m.0.seated) rests,
      ap (λ t. t.me.0.holds) is ∙ ap (λ m. m.0.holds) rests,
      ap (λ t. t.me.0.has_book) is ∙ ap (λ m. m.0.has_book) rests,
    )

pub loop-seat-preserved : goal.loop-seat-preserved
loop-seat-preserved g c =
    let manager = c.args.self.now in let terms = terms_in g.M.Machine.base_of manager in
    let inv = c.loop-seat.invariant in let kept = c.loop-seat.kept in let seat = c.in-Some.seat in
    let each =
    all_split (IsSeatOf (table_of manager) terms) c.pop.new.self.items seat
    (subst (All (IsSeatOf (table_of manager) terms)) c.in-Some.ensures.items inv.others) in
    let mine : IsSeatOf (table_of manager) terms seat = each.1 in
    let joined = c.take_in.ensures in
    let view = joined.view ∙ ap (λ t. both_of kept.me.0 t.me.0) c.into_token.ensures in
    record {
      table = joined.table ∙ inv.table;
      seated = (ap (λ v. v.seated) view ∙ inv.seated.0, ap (λ v. v.holds) view ∙ inv.seated.1, ap (λ v. v.has_book) view ∙ inv.seated.2);
      others = each.0;
      all =
          ap (λ v. held v ++ reverse (map stand c.pop.new.self.items)) view
          ∙ (held_more terms kept.me.0 seat c.loop-seat.others.items c.pop.new.self.items inv.seated.0 mine.rests
          c.in-Some.ensures.items ∙ inv.all);
    }
