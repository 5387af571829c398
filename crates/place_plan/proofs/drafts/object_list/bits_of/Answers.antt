use Rattle.std.proofs.Common.{◌||◌, ◌∙◌, slice_index, refl, ap, arith}
use Rattle.std.proofs.Math.ListN.{length-set}
use Rattle.caa_base.specs.Written.Lists.{member}
use Rattle.place_plan.proofs.OnDrafts.BitsOfObjects.{no_bits, one_bit_more, one_number_more}
use Rattle.place_plan.proofs.drafts.object_list.bits_of.Goals as goal

pub loop-object-init : goal.loop-object-init
loop-object-init c = record { long = refl; told = λ n. ap (λ had. had || member n c.args.objects.now) (no_bits n) }

pub loop-object-preserved : goal.loop-object-preserved
loop-object-preserved c =
    let object = slice_index c.args.objects.now c.loop-object.object-index in
    record {
      long = length-set c.loop-object.bits _ c.with_bit.result ∙ c.loop-object.invariant.long;
      told = λ n.
          one_number_more c.args.objects.now c.loop-object.object-index n _ _ c.loop-object-test.true
          (one_bit_more c.loop-object.bits object c.with_bit.result n
          (omega (arith, c.loop-object.invariant.long, c.if-row-ge2.false)) c.with_bit.ensures)
          (c.loop-object.invariant.told n);
    }
