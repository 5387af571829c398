use Rattle.script_checker.proofs.GraphRows.{plain_rows}
use Rattle.script_checker.proofs.compile.plain_rows.Goals as goal

pub returns : goal.returns
returns c =
    rw (c.in_ok-push.ensures.items, c.new-rows.ensures.items)
    (plain_rows c.args.names.now c.in_ok-row.row c.in_ok-row.ensures.names c.in_ok-row.ensures.order c.in_ok-row.ensures.sound)
