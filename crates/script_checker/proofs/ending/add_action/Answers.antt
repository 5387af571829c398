use Rattle.std.proofs.Common.{refl}
use Rattle.script_checker.proofs.ending.add_action.Goals as goal

pub returns : goal.returns
returns c =
    rw (
      c.in_ok-push.ensures,
      c.in_ok-push-2.ensures,
      c.in_ok-push-3.ensures,
      c.in_ok-push-4.ensures,
      c.depth_with-depth.ensures,
      c.places_with-places.ensures,
      c.bound_with-bound.ensures,
      c.as_slice-nests.ensures,
      c.as_slice.ensures,
      c.as_slice-2.ensures,
      c.as_slice-3.ensures,
    ) refl
