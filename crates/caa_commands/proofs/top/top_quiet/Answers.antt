use Rattle.caa_commands.proofs.CallsServed.{complete}
use Rattle.caa_commands.proofs.ToldCalls.{answered}
use Rattle.caa_commands.proofs.Tellable.{came_told}
use Rattle.caa_commands.proofs.top.top_quiet.Goals as goal

pub returns-clause-answer : goal.returns-clause-answer
returns-clause-answer g c =
    answered g.P.Plant _ _ _ c.args.plant _ _ _ _ _ _ _ c.quiet_command_of.ensures.command c.tell.ensures.plant
    c.decide-decision.ensures.came c.tell.ensures.tells

pub returns-clause-completeness : goal.returns-clause-completeness
returns-clause-completeness g c = complete _ _ _ (returns-clause-answer g c)

pub tell-requires : goal.tell-requires
tell-requires g c = came_told _ _ c.decide-decision.ensures.came
