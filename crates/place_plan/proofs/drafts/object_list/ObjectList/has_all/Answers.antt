use Rattle.std.proofs.Common.{subst}
use Rattle.place_plan.specs.inner.ObjectBits.{AreBitsOf}
use Rattle.place_plan.proofs.OnDrafts.BitsOfObjects.{told_by_bits}
use Rattle.place_plan.proofs.drafts.object_list.ObjectList.has_all.Goals as goal

pub returns-in-Some-Some : goal.returns-in-Some-Some
returns-in-Some-Some c =
    let ours : AreBitsOf c.in-Some-Some.bits c.args.self.now =
    subst (AreBitsOf c.in-Some-Some.bits) c.self.view_is (rw c.in-Some-Some.is-0 at c.self.invariant) in
    let theirs : AreBitsOf c.in-Some-Some.others c.args.objects.now =
    subst (AreBitsOf c.in-Some-Some.others) c.objects.view_is (rw c.in-Some-Some.is-1 at c.objects.invariant) in
    told_by_bits c.args.objects.now c.args.self.now c.in-Some-Some.bits c.in-Some-Some.others c.bits_have_all.result
    ours theirs c.bits_have_all.ensures.0 c.bits_have_all.ensures.1
