-- The stretches and rectangles that a picture is put together from.
use Rattle.std.specs.Prelude.{Bool, not, List}
use Rattle.std.specs.List.{All}
use Rattle.journal_pictures.specs.declared.layout.View.{View}
use Rattle.journal_pictures.specs.declared.shapes.Bar.{Bar}
use Rattle.journal_pictures.specs.declared.stretches.Stretch.{Stretch}
use Rattle.journal_pictures.specs.Stretches.{is_away, IsRight, CoverAll}
use Rattle.journal_pictures.specs.Pictures.{IsBar, stretches_shown}

-- the stretch is one of somebody who is in a place
abbrev pub is_here : Stretch → Bool
is_here s = not (is_away s.doing)

-- these rectangles are those of the stretches in a view
pub record AreBars (view : View) (bars : List Bar) : Type 0 where
  pub right : All (λ b. IsRight view.plan.now view.entries.now view.first view.rows b.stretch) bars
  pub placed : All (IsBar view.axes.now view.first view.rows) bars
  pub cover : CoverAll view.plan.now view.entries.now view.first view.rows (stretches_shown bars)
