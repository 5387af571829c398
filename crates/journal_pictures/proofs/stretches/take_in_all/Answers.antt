use Rattle.std.proofs.Common.{◌≡◌, ◌∙◌, ◌∷◌, [], ◌++◌, ◌+◌, ℕ, List, length, ap, sym, subst, arith, take, eqb, ltb, ◌&&◌}
use Rattle.std.specs.List.{All, count_by}
use Rattle.std.proofs.Math.Seq.{take-length}
use Rattle.std.proofs.lemmas.List.Elements.{All-push, All-get_or}
use Rattle.journal_states.specs.Past.{plan_in, journal_in, taken_in}
use Rattle.journal_pictures.specs.declared.stretches.Stretch.{Stretch}
use Rattle.journal_pictures.specs.Stretches.{has_moment}
use Rattle.journal_pictures.specs.inner.Lanes.{LiesIn, GoesTo, AreOpen, one_if}
use Rattle.journal_pictures.proofs.LaneLemmas.{no_stretch, open_more, taken_more, all_below}
use Rattle.journal_pictures.proofs.stretches.take_in_all.Goals as goal

pub take_in-requires-clause-known : goal.take_in-requires-clause-known
take_in-requires-clause-known c =
    let i = c.loop-stretch.stretch-index in
    let goes = c.requires.goes.1 i no_stretch (omega (arith, c.loop-stretch-test.true, c.requires.goes.0)) in
    omega (arith, goes.lane, c.loop-stretch-test.true, c.requires.goes.0)

pub take_in-requires-clause-lasts : goal.take_in-requires-clause-lasts
take_in-requires-clause-lasts c =
    (c.requires.goes.1 c.loop-stretch.stretch-index no_stretch (omega (arith, c.loop-stretch-test.true, c.requires.goes.0))).lasts

pub take_in-requires-clause-met : goal.take_in-requires-clause-met
take_in-requires-clause-met c =
    (c.requires.goes.1 c.loop-stretch.stretch-index no_stretch (omega (arith, c.loop-stretch-test.true, c.requires.goes.0))).met

pub loop-stretch-preserved : goal.loop-stretch-preserved
loop-stretch-preserved c =
    let states = c.args.states.now in
    let plan = plan_in states in
    let entries = journal_in states in
    let m = taken_in states in
    let former = c.args.former.now in
    let i = c.loop-stretch.stretch-index in
    let next = c.loop-stretch.next.items in
    let kept = c.in_ok-kept.kept in
    let so_far = c.loop-stretch.invariant in
    let goes = c.requires.goes.1 i no_stretch (omega (arith, c.loop-stretch-test.true, c.requires.goes.0)) in
    let lies = λ (first : ℕ) (all : All (LiesIn plan entries first m) former).
    All-get_or (LiesIn plan entries first m) former i no_stretch c.loop-stretch-test.true all in
    let items : c.push.new.self.items ≡ next ++ kept ∷ [] = c.in_ok-push.ensures.items in
    record {
      within = omega (arith, c.loop-stretch-test.true);
      goes =
          subst (AreOpen (i + 1) (m + 1)) (sym items)
          (open_more i (m + 1) next kept so_far.goes
          (subst (λ (t : ℕ). GoesTo t (m + 1) kept) goes.lane c.in_ok-kept.ensures.goes));
      next = λ first all.
          subst (All (LiesIn plan entries first (m + 1))) (sym items)
          (All-push (LiesIn plan entries first (m + 1)) next kept (so_far.next first all)
          (c.in_ok-kept.ensures.next first (lies first all)));
      done = λ first all old. c.in_ok-kept.ensures.done first (lies first all) (so_far.done first all old);
      number = λ t k.
          subst (λ (ss : List Stretch). count_by (has_moment t k) c.take_in.new.done.items + count_by (has_moment t k) ss
          ≡ count_by (has_moment t k) c.args.done.now.items + count_by (has_moment t k) (take (i + 1) former)
          + one_if (ltb t (i + 1) && eqb m k)) (sym items)
          (taken_more t k m i c.args.done.now.items c.loop-stretch.done.items c.take_in.new.done.items next former no_stretch kept
          c.loop-stretch-test.true goes.lane (so_far.number t k) (c.in_ok-kept.ensures.number t k));
    }

pub returns-clause-goes : goal.returns-clause-goes
returns-clause-goes c =
    let i = c.loop-stretch.stretch-index in
    subst (λ (n : ℕ). AreOpen n (taken_in c.args.states.now + 1) c.loop-stretch.next.items)
    (omega (arith, c.loop-stretch-test.false, c.loop-stretch.invariant.within, c.requires.goes.0)) c.loop-stretch.invariant.goes

pub returns-clause-number : goal.returns-clause-number
returns-clause-number c =
    λ t k low.
    let former = c.args.former.now in
    let n = length (plan_in c.args.states.now).participants in
    let b = eqb (taken_in c.args.states.now) k in
    let end : c.loop-stretch.stretch-index ≡ n =
    omega (arith, c.loop-stretch-test.false, c.loop-stretch.invariant.within, c.requires.goes.0) in
    let whole = ap (λ (i : ℕ). count_by (has_moment t k) (take i former)) (end ∙ sym c.requires.goes.0)
    ∙ ap (count_by (has_moment t k)) (take-length former) in
    let last = ap (λ (i : ℕ). one_if (ltb t i && b)) end in
    omega (arith, c.loop-stretch.invariant.number t k, whole, last, all_below t n b low)
