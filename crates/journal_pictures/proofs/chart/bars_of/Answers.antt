use Rattle.journal_pictures.specs.Pictures.{stretches_shown}
use Rattle.journal_pictures.proofs.BarLemmas.{all_shown}
use Rattle.journal_pictures.proofs.LaneLemmas.{no_stretch}
use Rattle.journal_pictures.proofs.chart.bars_of.Goals as goal

pub loop-stretch-preserved : goal.loop-stretch-preserved
loop-stretch-preserved c = record {
  shown =
      all_shown c.args.stretches.now c.loop-stretch.stretch-index no_stretch (stretches_shown c.loop-stretch.bars.items)
      (stretches_shown c.push_here.new.bars.items) c.loop-stretch-test.true c.loop-stretch.invariant.shown c.in_ok-push_here.ensures.shown;
  placed = c.in_ok-push_here.ensures.placed c.loop-stretch.invariant.placed;
}
