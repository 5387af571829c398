use Rattle.std.proofs.Common.{◌∙◌, sym, true≢false}
use Rattle.role_driver.proofs.Complete.{all_over}
use Rattle.role_driver.proofs.all_seats.close_done.Goals as goal

pub unreachable-requires : goal.unreachable-requires
unreachable-requires g c =
    let missing = c.in-Err.ensures.missing in
    true≢false (sym (c.requires.all c.in-Err._refused.missing missing.known) ∙ missing.out)

pub returns-clause-complete : goal.returns-clause-complete
returns-clause-complete g c =
    all_over g.M.Machine.base_of c.args.manager (g.M.Machine.journal_of c.in-Ok.closed.machine) c.args.seats.items
    c.requires.done c.in-Ok.ensures.accounts c.requires.all
