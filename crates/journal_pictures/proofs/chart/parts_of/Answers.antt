use Rattle.std.proofs.Common.{◌∙◌, List, ap, filter}
use Rattle.journal_pictures.specs.declared.stretches.Stretch.{Stretch}
use Rattle.journal_pictures.specs.inner.Parts.{is_here}
use Rattle.journal_pictures.proofs.BarLemmas.{are_bars}
use Rattle.journal_pictures.proofs.chart.parts_of.Goals as goal

pub returns-clause-bars : goal.returns-clause-bars
returns-clause-bars c =
    are_bars c.args.view.now c.args.told.now.stretches.items c.in_ok-bars.bars.items c.requires.told c.requires.number
    (c.in_ok-bars.ensures.shown ∙ ap (λ (ss : List Stretch). filter is_here ss) c.deref.ensures.value) c.in_ok-bars.ensures.placed
