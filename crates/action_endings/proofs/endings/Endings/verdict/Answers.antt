use Rattle.std.proofs.Common.{ℕ, ◌≤◌, subst, sym, arith}
use Rattle.cover_table.specs.Cover.{CoverOrder, most_exceptions}
use Rattle.place_plan.proofs.OnPlans.SmallParts.{few_participants}
use Rattle.action_endings.specs.declared.ending.Ending.{Ending}
use Rattle.action_endings.specs.inner.KeptEndings.{at, role_number, SignalsBelow}
use Rattle.action_endings.specs.inner.ChangedEndings.{ChangesAt, Gives}
use Rattle.action_endings.proofs.EndingsKept.{changes_at, said_keeps}
use Rattle.action_endings.proofs.PlanNumbers.{role_low, signals_lower}
use Rattle.action_endings.proofs.endings.Endings.verdict.Goals as goal

pub having_said-row-requires-clause-known : goal.having_said-row-requires-clause-known
having_said-row-requires-clause-known c =
    let few = few_participants c.args.plan.now c.is_closed.ensures in
    let known = c.requires.may.known in
    omega arith

pub having_said-row-requires-clause-short : goal.having_said-row-requires-clause-short
having_said-row-requires-clause-short c =
    let few : c.interface.result.now.count ≤ most_exceptions = c.is_sound.ensures.few in
    signals_lower c.args.verdict c.interface.result.now.count 256
    (subst (λ (o : CoverOrder). SignalsBelow o.count c.args.verdict) (sym c.interface.ensures) c.requires.in_range) (omega arith)

pub returns-clause-given : goal.returns-clause-given
returns-clause-given c =
    let p = c.args.place in let t = c.args.by in let v = c.args.verdict in let new = c.having_said-row.result in
    changes_at (Gives (role_number c.args.plan.now p t) t v) p c.args.self.now c.set.new.self new c.requires.may.there c.set.ensures
    (subst (λ (r : ℕ). Gives r t v (at c.args.self.now p) new) c.role_in.ensures.number
    (subst (λ (row : Ending). Gives c.role_in.result t v row new) c.row.ensures c.having_said-row.ensures))

pub returns-clause-keeps : goal.returns-clause-keeps
returns-clause-keeps c = λ past e s w.
    let plan = c.args.plan.now in let p = c.args.place in let t = c.args.by in let v = c.args.verdict in
    let new = c.having_said-row.result in
    let changes : ChangesAt (Gives (role_number plan p t) t v) p c.args.self.now c.set.new.self =
    changes_at (Gives (role_number plan p t) t v) p c.args.self.now c.set.new.self new c.requires.may.there c.set.ensures
    (subst (λ (r : ℕ). Gives r t v (at c.args.self.now p) new) c.role_in.ensures.number
    (subst (λ (row : Ending). Gives c.role_in.result t v row new) c.row.ensures c.having_said-row.ensures)) in
    said_keeps plan past e p t v c.args.self.now c.set.new.self c.requires.fresh c.requires.may.role
    (role_low plan c.is_closed.ensures p t c.requires.may.role) c.requires.in_range s w changes
