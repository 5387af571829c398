use Rattle.std.proofs.Common.{refl, sym, arith}
use Rattle.journal_replay.proofs.Prefixes.{legal_front}
use Rattle.fault_trials.proofs.Fronts.{put_is_here, put_stands}
use Rattle.fault_trials.proofs.puts.put_at.Goals as goal

pub spot_of-spot-requires-clause-legal : goal.spot_of-spot-requires-clause-legal
spot_of-spot-requires-clause-legal c = legal_front c.args.plan.now c.args.entries.now c.args.index c.requires

pub spot_of-spot-requires-clause-here : goal.spot_of-spot-requires-clause-here
spot_of-spot-requires-clause-here c =
    put_is_here c.args.plan.now c.args.entries.now c.args.index c.requires (omega arith) (sym c.if-not-takes_put.ensures)

pub returns-clause-put : goal.returns-clause-put
returns-clause-put c =
    put_stands c.args.plan.now c.args.entries.now c.args.index _ (omega arith) refl refl (sym c.if-not-takes_put.ensures)
    c.spot_of-spot.ensures
