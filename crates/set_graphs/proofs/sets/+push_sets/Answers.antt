use Rattle.std.proofs.Common.{◌≡◌, ◌+◌, ◌-◌, ◌++◌, map, subst, arith}
use Rattle.std.proofs.lemmas.Result.{on_ok_weaker}
use Rattle.set_graphs.specs.Sets.{choose}
use Rattle.set_graphs.specs.inner.Moved.{moved_after}
use Rattle.set_graphs.proofs.Chosen.{unit_is, added, fits, two_pow_more}
use Rattle.set_graphs.proofs.sets.+push_sets.Goals as goal

pub push_sets-requires : goal.push_sets-requires
push_sets-requires t c =
    let last = c.requires.last in
    let low = c.requires.low in
    let some = c.if-left-eq0.false in
    let u = unit_is c.args.next (omega (arith, last, some)) in
    let w = two_pow_more c.args.next in
    let d = c.decreases in
    (grind (arith, d, some), (omega (arith, last, some), omega (arith, low, u, w)))

pub push_sets-requires-2 : goal.push_sets-requires-2
push_sets-requires-2 t c =
    let last = c.requires.last in
    let low = c.requires.low in
    let some = c.if-left-eq0.false in
    let w = two_pow_more c.args.next in
    let d = c.decreases in
    (grind (arith, d, some), (omega (arith, last, some), omega (arith, low, w)))

pub overflow_add-before : goal.overflow_add-before
overflow_add-before t c =
    let last = c.requires.last in
    let some = c.if-left-eq0.false in
    let f = fits c.args.before c.args.next (omega (arith, last, some)) c.requires.low in
    grind (arith, f)

pub returns : goal.returns
returns t c =
    let left = c.if-left-eq0.false in
    let size = c.if-size-eq0.false in
    let last = c.requires.last in
    let u = unit_is c.args.next (omega (arith, last, left)) in
    let first =
    subst
    (λ b. c.push_sets.new.sets.items ≡ c.args.sets.now.items ++ map (moved_after (c.args.before + b) (c.args.next + 1))
    (choose (c.args.left - 1) (c.args.size - 1)))
    u (c.in_ok-push_sets.ensures) in
    on_ok_weaker c.push_sets-2.result
    (added c.args.before c.args.next c.args.left c.args.size _ _ _ (grind (arith, left)) (grind (arith, size)) first)
    c.push_sets-2.ensures
