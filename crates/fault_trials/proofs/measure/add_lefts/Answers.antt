use Rattle.std.proofs.Common.{◌≡◌, ◌∙◌, ap, sym}
use Rattle.rehearsals.specs.Facts.{value_in}
use Rattle.fault_trials.specs.Measures.{IsLeftBy}
use Rattle.fault_trials.proofs.Measured.{grew_none, grew_grew, grew_once}
use Rattle.fault_trials.proofs.measure.add_lefts.Goals as goal

pub loop-object-init : goal.loop-object-init
loop-object-init c = grew_none _ c.args.lefts.now.items

pub loop-object-preserved : goal.loop-object-preserved
loop-object-preserved c =
    let P = IsLeftBy c.args.plan.now c.args.ending.now c.args.values.now in
    grew_grew P _ _ _ c.loop-object.invariant
    (grew_once P _ _ c.left_by-left.result c.in_ok-add_left.ensures (record {
      ends = c.requires;
      play = c.left_by-left.ensures.play;
      value = c.left_by-left.ensures.value ∙ ap (value_in c.args.values.now) (sym c.left_by-left.ensures.object);
    }))
