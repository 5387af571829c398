use Rattle.std.proofs.Common.{◌∙◌, ap, sym, subst}
use Rattle.std.specs.List.{All}
use Rattle.std.proofs.lemmas.List.Elements.{All-push}
use Rattle.journal_pictures.specs.Pictures.{IsBar, stretches_shown}
use Rattle.journal_pictures.proofs.BarLemmas.{one_shown, none_shown}
use Rattle.journal_pictures.proofs.chart.push_here.Goals as goal

pub returns-then-not-is_here-clause-shown : goal.returns-then-not-is_here-clause-shown
returns-then-not-is_here-clause-shown c =
    none_shown c.args.bars.now.items c.args.stretch.now (sym c.is_here.ensures ∙ c.if-not-is_here.true)

pub returns-clause-shown : goal.returns-clause-shown
returns-clause-shown c =
    let bars = c.args.bars.now.items in
    let bar = c.in_ok-bar_of.field-0 in
    ap stretches_shown c.in_ok-push.ensures.items
    ∙ one_shown bars bar c.args.stretch.now (sym c.is_here.ensures ∙ c.if-not-is_here.false) c.in_ok-bar_of.ensures.stretch

pub returns-clause-placed : goal.returns-clause-placed
returns-clause-placed c =
    λ so_far.
    let view = c.args.view.now in
    let bars = c.args.bars.now.items in
    let right = IsBar view.axes.now view.first view.rows in
    subst (All right) (sym c.in_ok-push.ensures.items)
    (All-push right bars c.in_ok-bar_of.field-0 so_far c.in_ok-bar_of.ensures.placed)
