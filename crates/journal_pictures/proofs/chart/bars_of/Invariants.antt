use Rattle.std.proofs.Common.{◌≡◌, filter, take}
use Rattle.std.specs.List.{All}
use Rattle.journal_pictures.specs.Pictures.{IsBar, stretches_shown}
use Rattle.journal_pictures.specs.inner.Parts.{is_here}
use Rattle.journal_pictures.proofs.chart.bars_of.Given as goal

abbrev pub invariant-loop-stretch : goal.invariant-loop-stretch
invariant-loop-stretch l = record {
  shown : stretches_shown l.bars.items ≡ filter is_here (take l.stretch-index l.stretches);
  placed : All (IsBar l.view.axes.now l.view.first l.view.rows) l.bars.items;
}
