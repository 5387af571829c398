use Rattle.std.proofs.Common.{rules, ◌≡◌, ◌∷◌, [], ◌++◌, ◌+◌, ◌≤◌, ℕ, length, sym, subst, arith}
use Rattle.journal_pictures.specs.Pictures.{AreApart}
use Rattle.journal_pictures.proofs.ApartLemmas.{AreLeftOf, none_apart, lane_more, all_apart}
use Rattle.journal_pictures.proofs.layout.axes_of.Goals as goal

pub loop-lane-init : goal.loop-lane-init
loop-lane-init c = record {
  within = omega arith;
  small = omega arith;
  placed = subst (AreLeftOf 0 48) (sym c.new-axes.ensures.items) none_apart;
}

pub loop-lane-preserved : goal.loop-lane-preserved
loop-lane-preserved c =
    let left = c.loop-lane.left in
    let width = c.lane_width-left in
    record {
      within = omega (arith, c.loop-lane-test.true, c.participants-lane-end.ensures);
      small = omega (arith, c.loop-lane.invariant.small, width.ensures.most);
      placed =
          subst (AreLeftOf (c.loop-lane.lane + 1) (left + width.result)) (sym c.in_ok-push.ensures.items)
          (lane_more c.loop-lane.lane left width.result c.loop-lane.axes.items width.ensures.least c.loop-lane.invariant.placed);
    }

pub returns : goal.returns
returns c =
    let end : c.loop-lane.lane ≡ length c.args.plan.now.participants =
    omega (arith, c.loop-lane-test.false, c.loop-lane.invariant.within, c.participants-lane-end.ensures) in
    let wide : c.loop-lane.left + 10 ≤ c.max.result + 10 = search rules in
    subst (λ (n : ℕ). AreApart n (c.max.result + 10) c.loop-lane.axes.items) end
    (all_apart c.loop-lane.lane c.loop-lane.left (c.max.result + 10) c.loop-lane.axes.items wide c.loop-lane.invariant.placed)
