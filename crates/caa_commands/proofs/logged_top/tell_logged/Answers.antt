use Rattle.std.proofs.Common.{refl, sym, subst}
use Rattle.caa_commands.specs.OutsideUse.{sink_use}
use Rattle.caa_commands.specs.Logging.{EndsLog, ToldBy}
use Rattle.caa_commands.proofs.logged_top.tell_logged.Goals as goal

pub returns-in-Kept-clause-told : goal.returns-in-Kept-clause-told
returns-in-Kept-clause-told g c =
    let found = c.args.decided.decision.finding in
    let journal = c.args.decided.decision.journal.entries in
    let answer = c.end_log-status.result in
    subst (λ became. ToldBy g.K.Sink found journal journal became c.into_sink.result answer) (sym c.in-Kept.is) (
      refl,
      λ plan seens tells ends.
          subst (λ k. EndsLog plan found journal (sink_use g.K.Sink c.in-Kept.log.opened k) answer) (sym c.into_sink.ensures)
          (c.end_log-status.ensures.ends plan journal seens tells ends),
    )
