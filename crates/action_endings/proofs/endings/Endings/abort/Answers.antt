use Rattle.std.proofs.Common.{ℕ, ◌≤◌, ◌<◌, Option, IfSome, subst, sym, arith}
use Rattle.cover_table.specs.Cover.{CoverOrder, most_exceptions}
use Rattle.place_plan.proofs.OnPlans.SmallParts.{few_participants}
use Rattle.action_endings.specs.declared.ending.Ending.{Ending}
use Rattle.action_endings.specs.inner.KeptEndings.{at, role_number}
use Rattle.action_endings.specs.inner.ChangedEndings.{ChangesAt, GivesUp}
use Rattle.action_endings.proofs.EndingsKept.{changes_at, given_up_keeps}
use Rattle.action_endings.proofs.PlanNumbers.{role_low, name_lower}
use Rattle.action_endings.proofs.endings.Endings.abort.Goals as goal

pub having_given_up-row-requires-clause-known : goal.having_given_up-row-requires-clause-known
having_given_up-row-requires-clause-known c =
    let few = few_participants c.args.plan.now c.is_closed.ensures in
    let known = c.requires.may.known in
    omega arith

pub in_a_byte-requires : goal.in_a_byte-requires
in_a_byte-requires c =
    let few : c.interface.result.now.count ≤ most_exceptions = c.is_sound.ensures.few in
    name_lower c.args.exception c.interface.result.now.count 256
    (subst (λ (o : CoverOrder). IfSome c.args.exception (λ x. x < o.count)) (sym c.interface.ensures) c.requires.in_range) (omega arith)

pub returns-clause-aborted : goal.returns-clause-aborted
returns-clause-aborted c =
    let p = c.args.place in let t = c.args.by in let x = c.args.exception in let new = c.having_given_up-row.result in
    changes_at (GivesUp (role_number c.args.plan.now p t) t x) p c.args.self.now c.set.new.self new c.requires.may.there c.set.ensures
    (subst (λ (r : ℕ). GivesUp r t x (at c.args.self.now p) new) c.role_in.ensures.number
    (subst (λ (row : Ending). GivesUp c.role_in.result t x row new) c.row.ensures
    (subst (λ (o : Option ℕ). GivesUp c.role_in.result t o c.row.result new) c.in_a_byte.ensures c.having_given_up-row.ensures)))

pub returns-clause-keeps : goal.returns-clause-keeps
returns-clause-keeps c = λ past e s w.
    let plan = c.args.plan.now in let p = c.args.place in let t = c.args.by in let x = c.args.exception in
    let new = c.having_given_up-row.result in
    let changes : ChangesAt (GivesUp (role_number plan p t) t x) p c.args.self.now c.set.new.self =
    changes_at (GivesUp (role_number plan p t) t x) p c.args.self.now c.set.new.self new c.requires.may.there c.set.ensures
    (subst (λ (r : ℕ). GivesUp r t x (at c.args.self.now p) new) c.role_in.ensures.number
    (subst (λ (row : Ending). GivesUp c.role_in.result t x row new) c.row.ensures
    (subst (λ (o : Option ℕ). GivesUp c.role_in.result t o c.row.result new) c.in_a_byte.ensures c.having_given_up-row.ensures))) in
    given_up_keeps plan past e p t x c.args.self.now c.set.new.self c.requires.may.role
    (role_low plan c.is_closed.ensures p t c.requires.may.role) s w changes
