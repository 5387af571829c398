use Rattle.std.proofs.Common.{◌≡◌, ◌∙◌, ◌++◌, List, ap}
use Rattle.std.specs.List.{flat_map}
use Rattle.journal_pictures.specs.declared.marks.Mark.{Mark}
use Rattle.journal_pictures.specs.declared.shapes.Bar.{Bar}
use Rattle.journal_pictures.specs.declared.shapes.Shape.{Shape}
use Rattle.journal_pictures.specs.Pictures.{shape_text, bar_text, mark_text, body_text}
use Rattle.journal_pictures.proofs.TextLemmas.{four_more}
use Rattle.journal_pictures.proofs.chart.push_body.Goals as goal

pub returns : goal.returns
returns c =
    let plan = c.args.view.now.plan.now in
    let axes = c.args.view.now.axes.now in
    let parts = c.args.parts.now in
    let old = c.args.text.now.items in
    let shapes = λ (all : List Shape). flat_map shape_text all in
    let bars = λ (all : List Bar). flat_map bar_text all in
    let marks = λ (all : List Mark). flat_map (mark_text plan axes) all in
    let first : c.push_shapes.new.text.items ≡ old ++ shapes parts.shapes.items =
    c.in_ok-push_shapes.ensures ∙ ap (λ all. old ++ shapes all) c.deref.ensures.value in
    let second : c.push_bars.new.text.items ≡ c.push_shapes.new.text.items ++ bars parts.bars.items =
    c.in_ok-push_bars.ensures ∙ ap (λ all. c.push_shapes.new.text.items ++ bars all) c.deref-2.ensures.value in
    let third : c.push_marks.new.text.items ≡ c.push_bars.new.text.items ++ marks parts.marks.items =
    c.in_ok-push_marks.ensures ∙ ap (λ all. c.push_bars.new.text.items ++ marks all) c.deref-3.ensures.value in
    four_more _ _ _ _ _ _ _ _ _ first second third c.in_ok-extend_from_slice.ensures.items
