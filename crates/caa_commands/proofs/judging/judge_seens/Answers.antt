use Rattle.std.proofs.Common.{sym, ◌∙◌, arith}
use Rattle.caa_commands.proofs.JudgedLines.{text_long, wrong_look-few}
use Rattle.caa_commands.proofs.judging.judge_seens.Goals as goal

pub line_of_look-requires : goal.line_of_look-requires
line_of_look-requires c =
    let plan = c.args.plan.now in
    let journal = c.args.journal.entries in
    let seens = c.args.seens.now.seens in
    omega (
      arith,
      wrong_look-few plan journal seens c.in-Ok-Some.look (sym c.in-Ok-Some.ensures ∙ c.in-Ok-Some.field-0-is),
      text_long plan journal seens,
      c.requires.short,
    )
