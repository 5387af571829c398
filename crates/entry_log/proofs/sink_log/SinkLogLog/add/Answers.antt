use Rattle.std.proofs.Common.{sym, subst}
use Rattle.entry_log.specs.Logs.{Tells}
use Rattle.entry_log.proofs.LogLemmas.{added_line}
use Rattle.entry_log.proofs.sink_log.SinkLogLog.add.Goals as goal

pub returns-in-Whole : goal.returns-in-Whole
returns-in-Whole g c = record {
  grown = λ journal told.
      added_line g.K.Sink c.args.plan.now journal c.args.entry.now _ c.write_line-self-inside.new.sink c.write_line-self-inside.result c.in-Whole.is
      (subst (λ l. Tells g.K.Sink l c.args.plan.now journal) (sym c.self.view_is) told) c.write_line-self-inside.ensures;
}
