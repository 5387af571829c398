use Rattle.std.proofs.Common.{◌∙◌}
use Rattle.caa_commands.proofs.CallsServed.{complete}
use Rattle.caa_commands.proofs.GatesTold.{kept_told}
use Rattle.caa_commands.proofs.ToldCalls.{answered}
use Rattle.caa_commands.proofs.Tellable.{came_told}
use Rattle.caa_commands.proofs.top.top.Goals as goal

pub returns-clause-answer : goal.returns-clause-answer
returns-clause-answer g c =
    answered g.P.Plant _ _ _ c.args.plant _ _ _ _ _ _ _ (c.threaded_command_of.ensures.command c.requires.threads) c.tell.ensures.plant
    c.decide_in_threads-decision.ensures.came
    c.tell.ensures.tells

pub returns-clause-completeness : goal.returns-clause-completeness
returns-clause-completeness g c = complete _ _ _ (returns-clause-answer g c)

pub returns-clause-told : goal.returns-clause-told
returns-clause-told g c = λ is.
    kept_told (g.G.ToldGate.was_told c.args.gate.now) (g.G.ToldGate.was_handed c.args.gate.now) _ _ _ _ _
    (c.decide_in_threads-decision.ensures.told (c.threaded_command_of.ensures.command c.requires.threads ∙ is)) c.tell.ensures.tells

pub tell-requires : goal.tell-requires
tell-requires g c = came_told _ _ c.decide_in_threads-decision.ensures.came
