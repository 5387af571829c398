use Rattle.std.proofs.Common.{◌≤◌, arith, length, refl}
use Rattle.std.proofs.lemmas.List.{get_or_past}
use Rattle.place_plan.specs.Plans.Places.{no_place}
use Rattle.caa_show.proofs.lines.line_of.Goals as goal

-- nobody has a role in a place that isn't there
pub returns-then-spot-places : goal.returns-then-spot-places
returns-then-spot-places c =
    let plan = c.args.plan.now in
    let high : length plan.places ≤ c.args.spot.now.place = omega (arith, c.places.ensures, c.if-spot-places.true) in
    rw (get_or_past plan.places c.args.spot.now.place no_place high) refl
