use Rattle.std.proofs.Common.{◌∙◌}
use Rattle.place_plan.specs.Plans.Places.{initials_of}
use Rattle.rehearsals.proofs.JournalsCounted.{values_step}
use Rattle.fault_trials.proofs.Fronts.{blank}
use Rattle.fault_trials.proofs.Measured.{grew_none, grew_grew, left_there, way_there}
use Rattle.fault_trials.proofs.measure.note_ends.Goals as goal

pub loop-entry-init : goal.loop-entry-init
loop-entry-init c = record {
  values = c.in_ok-values.ensures;
  lefts = grew_none _ c.args.lefts.now.items;
  ways = grew_none _ c.args.ways.now.items;
}

pub loop-entry-preserved : goal.loop-entry-preserved
loop-entry-preserved c =
    let plan = c.args.plan.now in
    let entries = c.args.entries.now in
    let same = c.deref.ensures.value ∙ c.loop-entry.invariant.values in
    record {
      values = values_step (initials_of plan) c.loop-entry.values.items _ entries c.loop-entry.entry-index blank c.loop-entry-test.true
          c.loop-entry.invariant.values c.note_put.ensures;
      lefts = grew_grew _ _ _ _ c.loop-entry.invariant.lefts
          (left_there plan entries c.loop-entry.entry-index blank _ _ _ c.loop-entry-test.true same c.in_ok-note_entry.ensures.lefts);
      ways = grew_grew _ _ _ _ c.loop-entry.invariant.ways
          (way_there plan entries c.loop-entry.entry-index blank _ _ c.loop-entry-test.true c.in_ok-note_entry.ensures.ways);
    }
