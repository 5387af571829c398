use Rattle.std.proofs.Common.{◌≡◌, ◌∙◌, ◌∷◌, [], ◌++◌, ◌+◌, List, ap, sym, take, arith}
use Rattle.std.specs.List.{flat_map}
use Rattle.std.proofs.lemmas.List.{take_more, flat_map_more}
use Rattle.journal_pictures.specs.declared.shapes.Bar.{Bar}
use Rattle.journal_pictures.specs.Pictures.{bar_text}
use Rattle.journal_pictures.proofs.chart.push_bars.Goals as goal

pub loop-bar-preserved : goal.loop-bar-preserved
loop-bar-preserved c =
    let bars = c.args.bars.now in
    let i = c.loop-bar.bar-index in
    let bar = c.bar-item.result in
    let old = c.args.text.now.items in
    let one : take (i + 1) bars ≡ take i bars ++ bar ∷ [] =
    take_more bars i bar (omega (arith, c.loop-bar-test.true)) ∙ ap (λ (b : Bar). take i bars ++ b ∷ []) (sym c.bar-item.is) in
    c.in_ok-push_bar.ensures ∙ ap (λ t. t ++ bar_text bar) c.loop-bar.invariant
    ∙ flat_map_more bar_text old (take i bars) bar ∙ ap (λ (ys : List Bar). old ++ flat_map bar_text ys) (sym one)
