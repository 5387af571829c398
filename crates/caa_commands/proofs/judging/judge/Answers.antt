use Rattle.caa_commands.proofs.judging.judge.Goals as goal

pub returns : goal.returns
returns c = c.judge_journal.ensures c.args.text.now c.in-Ok.ensures.reads.same
