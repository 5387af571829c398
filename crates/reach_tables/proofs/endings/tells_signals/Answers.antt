use Rattle.std.proofs.Common.{◌∙◌, sym, ap}
use Rattle.caa_base.specs.Written.Lists.{member}
use Rattle.reach_tables.proofs.Checked.{not_none, signals_told}
use Rattle.reach_tables.proofs.endings.tells_signals.Goals as goal

pub returns : goal.returns
returns c = λ found.
    signals_told c.args.graph.now c.args.row.now c.args.signals.now c.least.result c.is_sound.ensures.sound.is_order c.least.ensures
    (not_none c.args.signals.now (sym c.is_empty.ensures ∙ c.if-is_empty.false))
    (ap (member c.least.result) (sym c.as_slice.ensures) ∙ sym c.is_member.ensures ∙ found)
