use Rattle.script_checker.proofs.GraphRows.{rows_push}
use Rattle.script_checker.proofs.ending.end_graph.Goals as goal

pub returns-clause-rows : goal.returns-clause-rows
returns-clause-rows c =
    rw (c.in_ok-push.ensures, c.in_ok-push-2.ensures.items, c.end.ensures)
    (rows_push c.args.names.now c.args.declared.now.graphs c.args.rows.now.items c.args.graph c.in_ok-row.row c.requires
    c.in_ok-row.ensures.row)
