use Rattle.std.proofs.Common.{◌≤◌, Err, ap, arith}
use Rattle.cover_table.specs.Cover.{most_exceptions}
use Rattle.script_checker.proofs.open_graph.ordered.Goals as goal

pub unreachable-requires : goal.unreachable-requires
unreachable-requires c =
    let h = (c.in-Err-TooMany.ensures.too_many c.in-Err-TooMany.field-0-0).0 (ap Err c.in-Err-TooMany.field-0-is) in
    omega (arith, h.0, c.requires.few, c.len.ensures.count)

pub returns-in-Ok-clause-graph : goal.returns-in-Ok-clause-graph
returns-in-Ok-clause-graph c =
    let few : c.len.result ≤ most_exceptions = omega (arith, c.requires.few, c.len.ensures.count) in
    rw (← c.len.ensures.count, ← c.deref.ensures.value)
    (record {
      order = c.in-Ok.ensures.built;
      sound = c.is_sound.ensures.sound;
      faultless = record {
        acyclic = λ at h. let e = (c.in-Ok.ensures.cycle at).1 (few, h) in absurd cc;
        joined = λ a b h. let e = (c.in-Ok.ensures.no_least a b).1 (few, h) in absurd cc;
      };
    })

pub returns-in-Err-Cycle-clause-refused : goal.returns-in-Err-Cycle-clause-refused
returns-in-Err-Cycle-clause-refused c =
    rw (← c.len.ensures.count, ← c.deref.ensures.value)
    ((c.in-Err-Cycle.ensures.cycle c.in-Err-Cycle.at).0 (ap Err c.in-Err-Cycle.field-0-is)).1

pub returns-in-Err-NoLeast-clause-refused : goal.returns-in-Err-NoLeast-clause-refused
returns-in-Err-NoLeast-clause-refused c =
    rw (← c.len.ensures.count, ← c.deref.ensures.value)
    ((c.in-Err-NoLeast.ensures.no_least c.in-Err-NoLeast.a c.in-Err-NoLeast.b).0 (ap Err c.in-Err-NoLeast.field-0-is)).1
