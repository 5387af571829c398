use Rattle.std.proofs.Common.{◌≡◌, ◌<◌, ◌^◌}
use Rattle.caa_base.specs.Written.Mixing.{state_after}
use Rattle.caa_base.proofs.written.work.mix.Given as goal

abbrev pub invariant-loop-round : goal.invariant-loop-round
invariant-loop-round l = record { small : l.state < 2 ^ 31; value : l.state ≡ state_after l.start l._round }
