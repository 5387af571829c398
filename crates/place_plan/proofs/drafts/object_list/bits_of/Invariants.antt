use Rattle.std.proofs.Common.{◌≡◌, ◌||◌, ℕ, drop, length}
use Rattle.caa_base.specs.Written.Lists.{member}
use Rattle.place_plan.specs.inner.ObjectBits.{bits_have}
use Rattle.place_plan.proofs.drafts.object_list.bits_of.Given as goal

abbrev pub invariant-loop-object : goal.invariant-loop-object
invariant-loop-object l = record {
  long : length l.bits ≡ 2;
  told : (n : ℕ) → (bits_have l.bits n || member n (drop l.object-index l.objects)) ≡ member n l.objects;
}
