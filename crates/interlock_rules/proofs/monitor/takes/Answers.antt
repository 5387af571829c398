use Rattle.std.proofs.Common.{◌≡◌, ◌↔◌, Bool, true, reverse, sym, subst}
use Rattle.interlock_rules.specs.Interlocks.{Takes}
use Rattle.interlock_rules.proofs.Moments.{takes_all}
use Rattle.interlock_rules.proofs.monitor.takes.Goals as goal

pub returns : goal.returns
returns c =
    subst (λ (b : Bool). (b ≡ true) ↔ Takes c.args.taken.now (reverse c.args.entries.now)) (sym c.are_taken.ensures)
    (takes_all c.args.taken.now c.args.entries.now)
