use Rattle.std.proofs.Common.{◌++◌, sym, ap, ◌∙◌, subst}
use Rattle.journal_text.specs.Texts.Text.{entries_text}
use Rattle.entry_log.specs.Logs.{Tells, TellsBy, TextCame}
use Rattle.entry_log.proofs.LogLemmas.{ends_by, ends_failed, whole_of}
use Rattle.entry_log.proofs.sink_log.SinkLog.complete.Goals as goal

pub returns-in-Failed-clause-came : goal.returns-in-Failed-clause-came
returns-in-Failed-clause-came g c = λ plan journal told.
    ends_failed g.K.Sink plan journal c.args.rest.now c.args.self.now
    (subst (λ s. TellsBy s g.K.Sink c.args.self.now plan journal) (sym (ap (λ l. l.state) c.self.view_is) ∙ c.in-Failed.is) told.1)

pub returns-in-Whole-clause-came : goal.returns-in-Whole-clause-came
returns-in-Whole-clause-came g c = λ plan journal told.
    let whole = whole_of g.K.Sink plan journal _ c.in-Whole.is (subst (λ l. Tells g.K.Sink l plan journal) (sym c.self.view_is) told) in
    let ends = c.write_all.ensures in
    subst (λ l. TextCame g.K.Sink l.opened c.write_all.new.sink (entries_text plan journal ++ c.args.rest.now) c.write_all.result)
    c.self.view_is
    (ends_by g.K.Sink plan journal c.args.rest.now c.write_all.result _ _ c.write_all.new.sink whole ends.done ends.part ends.count)
