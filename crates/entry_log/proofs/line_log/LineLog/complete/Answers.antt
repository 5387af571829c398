use Rattle.std.proofs.Common.{subst}
use Rattle.journal_text.specs.Texts.Text.{entries_text}
use Rattle.entry_log.specs.LineLogs.{TellsAt}
use Rattle.entry_log.proofs.LiveLemmas.{came_behind, front_longer}
use Rattle.entry_log.proofs.line_log.LineLog.complete.Goals as goal

pub returns-in-Whole : goal.returns-in-Whole
returns-in-Whole g c = λ plan opening entries told.
    let begun = c.begin.new.self in
    let ends = c.write_all.ensures in
    came_behind g.K.Sink opening begun.sink c.write_all.new.sink (entries_text plan entries) c.args.rest.now c.write_all.result
    (subst (λ s. TellsAt s g.K.Sink plan opening begun.sink entries) c.in-Whole.is (c.begin.ensures.told plan opening entries told))
    ends.done ends.part ends.count

pub returns-in-Failed : goal.returns-in-Failed
returns-in-Failed g c = λ plan opening entries told.
    let begun = c.begin.new.self in
    front_longer g.K.Sink opening begun.sink (entries_text plan entries) c.args.rest.now
    (subst (λ s. TellsAt s g.K.Sink plan opening begun.sink entries) c.in-Failed.is (c.begin.ensures.told plan opening entries told))
