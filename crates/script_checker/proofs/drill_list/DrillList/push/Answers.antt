use Rattle.script_checker.proofs.DrillTables.{puts_of_more}
use Rattle.script_checker.proofs.drill_list.DrillList.push.Goals as goal

pub invariant_of-self-2 : goal.invariant_of-self-2
invariant_of-self-2 c =
    rw (c.in_ok-push.ensures.items, c.in_ok-reserve.ensures.items)
    (puts_of_more c.self.inside.puts c.insert.new.self c.self.inside.items.items c.args.drill c.self.invariant
    c.in_ok-insert.ensures.updates.0)
