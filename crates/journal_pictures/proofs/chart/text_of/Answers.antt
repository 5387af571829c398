use Rattle.std.proofs.Common.{◌≡◌, ◌++◌, ◌+◌, ℕ, List, ap, ◌∙◌, subst}
use Rattle.std.specs.List.{All}
use Rattle.journal_pictures.specs.declared.marks.Mark.{Mark}
use Rattle.journal_pictures.specs.Stretches.{IsRight, CoverAll}
use Rattle.journal_pictures.specs.Pictures.{middle, front_text, body_text, IsBar, stretches_shown}
use Rattle.journal_pictures.proofs.chart.text_of.Goals as goal

pub returns : goal.returns
returns c =
    let view = c.args.view.now in
    let parts = c.args.parts.now in
    let bars = parts.bars.items in
    let front = front_text view.width c.height.result in
    let begun : c.push_front.new.text.items ≡ front = c.in_ok-push_front.ensures ∙ ap (λ t. t ++ front) c.new-text.ensures.items in
    let body = λ (marks : List Mark). body_text view.plan.now view.axes.now parts.shapes.items parts.bars.items marks in
    record {
      width = view.width;
      height = c.height.result;
      axes = view.axes.now;
      tall = c.height.ensures ∙ ap (λ (n : ℕ). middle n + 10) c.requires.rows;
      lanes = c.requires.lanes;
      shapes = parts.shapes.items;
      bars = parts.bars.items;
      right =
          subst (λ (n : ℕ). All (λ b. IsRight view.plan.now view.entries.now view.first n b.stretch) bars) c.requires.rows
          c.requires.bars.right;
      placed = subst (λ (n : ℕ). All (IsBar view.axes.now view.first n) bars) c.requires.rows c.requires.bars.placed;
      cover =
          subst (λ (n : ℕ). CoverAll view.plan.now view.entries.now view.first n (stretches_shown bars)) c.requires.rows
          c.requires.bars.cover;
      same = c.in_ok-push_body.ensures
          ∙ ap (λ t. t ++ body parts.marks.items) begun
          ∙ ap (λ marks. front ++ body marks) c.requires.marks;
    }
