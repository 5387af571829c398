use Rattle.std.proofs.Common.{arith, length-drop, ◌∙◌}
use Rattle.std.proofs.lemmas.Grind.{common_steps}
use Rattle.caa_base.proofs.KnownBytes.{append_known-more, front_more}
use Rattle.caa_base.proofs.outside.reading.write_all.Goals as goal

pub loop-done-preserved : goal.loop-done-preserved
loop-done-preserved g c = record {
  within = omega (arith, c.in_ok-done.ensures.bound, length-drop c.loop-done.done c.args.bytes.now);
  written = append_known-more _ _ _ _ _ _ c.loop-done.invariant.written c.in_ok-done.ensures.bytes
      (front_more c.args.bytes.now _ c.loop-done.done c.in_ok-done.field-0 (grind (arith, common_steps)));
  room = c.write_once.ensures.room ∙ c.loop-done.invariant.room;
  count = c.in_ok-done.ensures.count ∙ c.loop-done.invariant.count;
}
