use Rattle.std.proofs.Common.{◌≡◌, ◌++◌, length, drop}
use Rattle.place_plan.specs.Plans.Unfolding.{unfold_at, plays_from, tops_from}
use Rattle.caa_base.specs.Written.Limits.{most_depth}
use Rattle.place_plan.proofs.plans.unfolding.unfold_plays.Given as goal

-- the places and the numbers so far, with those of the plays that are left
abbrev pub invariant-loop-play : goal.invariant-loop-play
invariant-loop-play l = record {
  rows : l.places ++ plays_from (unfold_at most_depth l.actions) (length l.places) (drop l.play-index l.plays)
      ≡ plays_from (unfold_at most_depth l.actions) 0 l.plays;
  tops : l.tops.items ++ tops_from (unfold_at most_depth l.actions) (length l.places) (drop l.play-index l.plays)
      ≡ tops_from (unfold_at most_depth l.actions) 0 l.plays;
}
