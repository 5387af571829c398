use Rattle.std.proofs.Common.{◌≤◌, pos, length, slice_index_or, ap, subst, sym, arith}
use Rattle.std.proofs.lemmas.Bool.{lt-ltb}
use Rattle.caa_base.specs.Written.Limits.{IsValue}
use Rattle.journal_text.specs.declared.looks.seens.Seen.{Seen}
use Rattle.journal_text.specs.Watching.Looks.{last_watch}
use Rattle.shared_views.specs.declared.observed.Reading.{Reading}
use Rattle.role_driver.proofs.LooksAdded.{kept, mid_of, watch_within}
use Rattle.role_driver.proofs.gathering.add_looks.Goals as goal

abbrev none : Reading
none = record { ends = 0; value = pos 0 }

pub push-requires-clause-room : goal.push-requires-clause-room
push-requires-clause-room c =
    let inv = c.loop-index.invariant in let seen = c.args.seen.now in let i = c.loop-index.index in
    let mid = mid_of (λ r. IsValue r.value) c.args.seens.now.seens c.args.watch seen c.args.last i none
    (omega (arith, c.loop-index-test.true, inv.end))
    (lt-ltb (slice_index_or seen i none).ends c.args.last.ends c.if-reading-last.true) c.requires.values in
    omega (arith, mid.1, ap length inv.looks, inv.room, c.requires.room)

pub push-requires-clause-watch : goal.push-requires-clause-watch
push-requires-clause-watch c =
    let within = watch_within 0 c.args.watch c.args.seens.now.seens (kept c.args.seen.now c.args.last c.loop-index.index)
    c.requires.order in
    omega (
      arith,
      subst (λ s. last_watch 0 s ≤ c.args.watch) (sym c.loop-index.invariant.looks) within,
      ap (λ (s : Seen). s.watch) c.look_of.ensures,
    )

pub push-requires-clause-value : goal.push-requires-clause-value
push-requires-clause-value c =
    let inv = c.loop-index.invariant in let seen = c.args.seen.now in let i = c.loop-index.index in
    let mid = mid_of (λ r. IsValue r.value) c.args.seens.now.seens c.args.watch seen c.args.last i none
    (omega (arith, c.loop-index-test.true, inv.end))
    (lt-ltb (slice_index_or seen i none).ends c.args.last.ends c.if-reading-last.true) c.requires.values in
    subst (λ (s : Seen). IsValue s.value) (sym c.look_of.ensures) mid.0

pub push-requires-2-clause-watch : goal.push-requires-2-clause-watch
push-requires-2-clause-watch c =
    let within = watch_within 0 c.args.watch c.args.seens.now.seens (kept c.args.seen.now c.args.last c.loop-index.index)
    c.requires.order in
    omega (
      arith,
      subst (λ s. last_watch 0 s ≤ c.args.watch) (sym c.loop-index.invariant.looks) within,
      ap (λ (s : Seen). s.watch) c.look_of-2.ensures,
    )
