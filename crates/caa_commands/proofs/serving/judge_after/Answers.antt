use Rattle.std.proofs.Common.{ℕ, ◌-◌, length, take, drop, arith}
use Rattle.std.proofs.lemmas.List.{length-drop, length-take}
use Rattle.caa_commands.proofs.JudgedLines.{illegal_near}
use Rattle.caa_commands.proofs.serving.judge_after.Goals as goal

pub overflow_add-line : goal.overflow_add-line
overflow_add-line g c =
    let start = c.find_journal-start in
    let left : ℕ = length c.args.bytes.now - start.result.offset in
    let rest = drop start.result.offset c.args.bytes.now in
    omega (
      arith,
      illegal_near c.args.plan.now (take left rest) c.in-Illegal.number c.in-Illegal.ensures,
      length-take left rest,
      length-drop start.result.offset c.args.bytes.now,
      start.ensures.few,
      start.ensures.within,
    )
