use Rattle.std.proofs.Common.{◌<◌, ap, subst, length}
use native.Mathlib.Omega.{arith}
use Rattle.crossbeam_queue.specs.Passes.{view}
use Rattle.worker_pool.proofs.Parts.{have_parts}
use Rattle.worker_pool.proofs.Gathering.{whole_parts, whole_held}
use Rattle.worker_pool.proofs.hands.Relay.shut.Goals as goal

pub empty-requires-clause-parts : goal.empty-requires-clause-parts
empty-requires-clause-parts g c =
    let known = have_parts c.args.self c.args.hands.items c.requires.hands c.requires.all in
    whole_parts c.args.hands.items c.last_at-at.result c.swap_remove.result c.swap_remove.new.self.items
    (view c.into_parts-pass.result.0) (view c.gather.new.pass)
    (subst (λ xs. c.last_at-at.result < length xs) c.as_slice.ensures.value c.last_at-at.ensures.within)
    c.swap_remove.ensures.value c.swap_remove.ensures.items
    (ap (λ t. t.0.me.0.client) c.into_parts-pass.ensures) c.gather.ensures.parts known

pub returns-clause-once : goal.returns-clause-once
returns-clause-once g c h =
    let all = c.empty.ensures.once h in
    let whole = whole_held c.args.hands.items c.last_at-at.result c.swap_remove.result c.swap_remove.new.self.items
    (view c.into_parts-pass.result.0) (view c.gather.new.pass)
    (subst (λ xs. c.last_at-at.result < length xs) c.as_slice.ensures.value c.last_at-at.ensures.within)
    c.swap_remove.ensures.value c.swap_remove.ensures.items
    (ap (λ t. t.0.me.0.client) c.into_parts-pass.ensures) h (c.gather.ensures.held h) in
    omega (arith, all, whole)
