use Rattle.caa_commands.proofs.Answers.{unplannable, refused_for}
use Rattle.caa_commands.proofs.PlansOfScripts.{the_plan, only_plan}
use Rattle.caa_commands.proofs.scripts.counts_of.Goals as goal

pub returns-clause-refused : goal.returns-clause-refused
returns-clause-refused c =
    let told = c.in_ok-refusal-in-Err.ensures in
    let script = c.in_ok-script.script in
    unplannable c.args.bytes.now script c.in_ok-refusal-in-Err.refusal c.in_ok-script.ensures.script
    (refused_for script c.in-Err.error c.in_ok-refusal-in-Err.refusal c.in-Err.ensures.refused told.line told.fault)

pub returns-in-Ok-clause-counts : goal.returns-in-Ok-clause-counts
returns-in-Ok-clause-counts c =
    let counted = c.in-Ok.ensures.counts in
    let script = c.in_ok-script.script in
    record {
      plan = counted.plan;
      script = the_plan c.args.bytes.now script counted.plan c.in_ok-script.ensures.script
          (only_plan script counted.plan c.has_one_plan.ensures counted.made);
      counted = counted.counted;
    }
