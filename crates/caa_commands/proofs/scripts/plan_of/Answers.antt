use Rattle.caa_commands.proofs.Answers.{unplanned_made}
use Rattle.caa_commands.proofs.PlansOfScripts.{the_plan_made}
use Rattle.caa_commands.proofs.scripts.plan_of.Goals as goal

pub returns-clause-plan : goal.returns-clause-plan
returns-clause-plan c =
    let made = c.plan_of_script in
    the_plan_made c.args.bytes.now c.in_ok-script.script made.result c.in_ok-script.ensures.script made.ensures.plan

pub returns-clause-refused : goal.returns-clause-refused
returns-clause-refused c =
    let made = c.plan_of_script in
    unplanned_made c.args.bytes.now c.in_ok-script.script made.result c.in_ok-script.ensures.script made.ensures.refused
