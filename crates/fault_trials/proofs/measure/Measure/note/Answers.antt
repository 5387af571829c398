use Rattle.std.proofs.Common.{subst}
use Rattle.fault_trials.specs.Classes.{Measure}
use Rattle.fault_trials.specs.Measures.{GrewBy, IsLeftIn, IsWayIn}
use Rattle.fault_trials.proofs.measure.Measure.note.Goals as goal

pub returns-clause-lefts : goal.returns-clause-lefts
returns-clause-lefts c =
    subst (λ (m : Measure). GrewBy (IsLeftIn c.args.plan.now c.args.entries.now) m.lefts c.note_ends.new.lefts.items) c.self.view_is c.in_ok-note_ends.ensures.lefts

pub returns-clause-ways : goal.returns-clause-ways
returns-clause-ways c =
    subst (λ (m : Measure). GrewBy (IsWayIn c.args.plan.now c.args.entries.now) m.ways c.note_ends.new.ways.items) c.self.view_is c.in_ok-note_ends.ensures.ways
