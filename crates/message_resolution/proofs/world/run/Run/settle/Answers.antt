use Rattle.std.proofs.Common.{◌≡◌, ◌*◌, ℕ, subst, ap, arith}
use Rattle.cover_table.specs.Cover.{CoverOrder}
use Rattle.message_resolution.specs.Histories.Legal.{LegalPast}
use Rattle.message_resolution.specs.inner.Rows.{SettlesUpTo}
use Rattle.message_resolution.specs.inner.Runs.{RunView}
use Rattle.message_resolution.proofs.Running.SettlingSteps.{row_fits, up_to_all}
use Rattle.message_resolution.proofs.world.run.Run.settle.Goals as goal

pub deliver_to_all-requires : goal.deliver_to_all-requires
deliver_to_all-requires c =
    let n : ℕ = c.args.self.now.count in
    let before = c.loop-message.invariant in
    let same : c.self.inside.count ≡ n = ap (λ (v : RunView). v.count) c.self.view_is in
    let less = c.loop-message-test.true in
    let fits = row_fits c.loop-message.message n (omega arith) in
    let long = before.long in
    let count = before.count in
    let room = before.room in
    let enough = c.requires in
    omega arith

pub returns-clause-settles : goal.returns-clause-settles
returns-clause-settles c =
    let start = c.args.self.now in
    let now = c.loop-message.self in
    let n : ℕ = start.count in
    let before = c.loop-message.invariant in
    let same : c.self.inside.count ≡ n = ap (λ (v : RunView). v.count) c.self.view_is in
    let most = c.loop-message.auto.message-end in
    let least = c.loop-message-test.false in
    let last : c.loop-message.message ≡ 2 * n = omega arith in
    let legal : LegalPast start.order n now.past =
    subst (λ (o : CoverOrder). LegalPast o n now.past) before.order
    (subst (λ (k : ℕ). LegalPast now.order k now.past) before.count c.is_sound.ensures.legal) in
    up_to_all start.order n start.past now.past legal
    (subst (λ (m : ℕ). SettlesUpTo start.order n start.past now.past m 0) last before.settles)
