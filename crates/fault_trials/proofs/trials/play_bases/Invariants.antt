use Rattle.std.proofs.Common.{◌≡◌, length}
use Rattle.std.specs.List.{All}
use Rattle.fault_trials.specs.Measures.{IsMeasured}
use Rattle.fault_trials.specs.Tables.{IsWhole}
use Rattle.fault_trials.proofs.trials.play_bases.Given as goal

abbrev pub invariant-loop-index : goal.invariant-loop-index
invariant-loop-index l = record {
  plan : l.known.plan ≡ l.initial.known.plan;
  all : length l.known.bases.items ≡ l.index;
  whole : All (IsWhole l.known.plan) l.known.bases.items;
  measured : IsMeasured l.known.plan l.known.measure l.known.bases.items;
  off : l.known.measure.off ≡ l.initial.known.measure.off;
  counted : l.known.measure.counted ≡ l.initial.known.measure.counted;
}
