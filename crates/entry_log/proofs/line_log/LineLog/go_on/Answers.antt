use Rattle.std.proofs.Common.{[], ◌∷◌, ◌++◌, sym, subst}
use Rattle.entry_log.specs.LineLogs.{TellsAt}
use Rattle.entry_log.proofs.LiveLemmas.{goes_on, stays_failed}
use Rattle.entry_log.proofs.line_log.LineLog.go_on.Goals as goal

pub returns-in-Whole-clause-told : goal.returns-in-Whole-clause-told
returns-in-Whole-clause-told g c = λ opening entries told.
    let plan = c.args.plan.now in
    let wrote = c.write_line-written in
    subst (λ s. TellsAt s g.K.Sink plan opening wrote.new.sink (entries ++ c.args.entry.now ∷ [])) (sym c.stage_after-self.ensures)
    (goes_on g.K.Sink plan opening wrote.result c.args.self.now.sink wrote.new.sink entries c.args.entry.now
    (subst (λ s. TellsAt s g.K.Sink plan opening c.args.self.now.sink entries) c.in-Whole.is told)
    wrote.ensures.done wrote.ensures.part wrote.ensures.count)

pub returns-in-Failed-clause-told : goal.returns-in-Failed-clause-told
returns-in-Failed-clause-told g c = λ opening entries told.
    let plan = c.args.plan.now in
    let sink = c.args.self.now.sink in
    subst (λ s. TellsAt s g.K.Sink plan opening sink (entries ++ c.args.entry.now ∷ [])) (sym c.in-Failed.is)
    (stays_failed g.K.Sink plan opening sink entries c.args.entry.now
    (subst (λ s. TellsAt s g.K.Sink plan opening sink entries) c.in-Failed.is told))
