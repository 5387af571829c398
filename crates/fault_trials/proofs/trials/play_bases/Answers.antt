use Rattle.std.proofs.Common.{refl, ap, length}
use Rattle.fault_trials.proofs.Lines.{whole_none}
use Rattle.fault_trials.proofs.Measured.{measured_none}
use Rattle.fault_trials.proofs.trials.play_bases.Goals as goal

pub loop-index-init : goal.loop-index-init
loop-index-init c = record {
  plan = refl;
  all = ap length c.requires.none;
  whole = whole_none c.args.known.plan c.args.known.bases.items c.requires.none;
  measured = measured_none c.args.known.plan c.args.known.measure c.args.known.bases.items c.requires.lefts c.requires.ways;
  off = refl;
  counted = refl;
}
