use Rattle.std.proofs.Common.{◌∙◌, sym, subst₂}
use Rattle.std.proofs.Math.Logic.{∥∥₁_map}
use Rattle.caa_commands.specs.OutsideUse.{source_use, plant_use, left_of, call_of, sink_use}
use Rattle.caa_commands.specs.Logging.{LogAnswers}
use Rattle.caa_commands.proofs.GatesTold.{log_told}
use Rattle.caa_commands.proofs.LoggedCalls.{log_answered, log_complete}
use Rattle.caa_commands.proofs.Tellable.{came_told}
use Rattle.caa_commands.proofs.logged_top.top_logged.Goals as goal

pub returns-clause-answer : goal.returns-clause-answer
returns-clause-answer g c =
    let ended = c.tell_logged.result in
    subst₂ (λ a p. ∥ LogAnswers
    (call_of a (source_use g.S.Source c.args.source.now c.decide_logged_in_threads-decided.new.source)
    (left_of (plant_use g.P.Plant c.args.plant p) ended.journal.entries))
    (sink_use g.K.Sink c.args.sink ended.sink) ended.status ∥₁) (c.threaded_command_of-asked.ensures.command c.requires.threads) (sym c.tell_logged.ensures.plant)
    (log_answered g.K.Sink g.P.Plant _ _ c.args.plant _ _ c.args.sink _ c.requires.fresh c.requires.alike _ _ _ _
    c.decide_logged_in_threads-decided.ensures.came c.decide_logged_in_threads-decided.ensures.logged c.tell_logged.ensures.told)

pub returns-clause-completeness : goal.returns-clause-completeness
returns-clause-completeness g c = ∥∥₁_map (returns-clause-answer g c) (λ a. log_complete _ _ _ a)

pub returns-clause-told : goal.returns-clause-told
returns-clause-told g c = λ is.
    log_told (g.G.ToldGate.was_told c.args.gate.now) (g.G.ToldGate.was_handed c.args.gate.now) g.K.Sink _ _ _ _ _ _
    (c.decide_logged_in_threads-decided.ensures.told (c.threaded_command_of-asked.ensures.command c.requires.threads ∙ is)) c.tell_logged.ensures.told

pub tell_logged-requires : goal.tell_logged-requires
tell_logged-requires g c = came_told _ _ c.decide_logged_in_threads-decided.ensures.came
