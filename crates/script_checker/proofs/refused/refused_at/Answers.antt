use Rattle.std.proofs.Common.{rules}
use Rattle.script_checker.proofs.Taking.{told_at, refused_whole}
use Rattle.script_checker.proofs.refused.refused_at.Goals as goal

pub returns-clause-refused : goal.returns-clause-refused
returns-clause-refused c =
    refused_whole c.args.script.now c.lines.result.now c.in-Some.index c.in-Some.cause c.in_ok-so_far.so_far c.settle.new.block
    c.index-lines-index.result
    (told_at c.args.script.now c.in_ok-index.field-0 c.in-Some.index c.in-Some.cause (search rules) c.in_ok-index.ensures.refused)
    c.in_ok-so_far.ensures c.lines.ensures c.in_ok-settle.ensures
