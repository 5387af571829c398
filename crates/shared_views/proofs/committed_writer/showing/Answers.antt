use Rattle.std.proofs.Common.{◌≡◌, ◌∙◌, ap, fold, replicate, [], None}
use Rattle.shared_views.specs.inner.Boards.{shown, shown_after}
use Rattle.shared_views.specs.declared.board.Board.{Board}
use Rattle.shared_views.proofs.BoardSteps.{blank_right, stays}
use Rattle.shared_views.proofs.committed_writer.showing.Goals as goal

pub publish_as-writer-requires : goal.publish_as-writer-requires
publish_as-writer-requires g c next is =
    let w = c.in_ok-writer.ensures in
    let x : Board = c.in_ok-writer.writer.desk.shown.value in
    let row : x.given.items ≡ replicate c.args.objects None = ap (λ b. b.given.items) w.0 ∙ c.in_ok-first.ensures.given in
    let none : x.publications.list ≡ [] =
    ap (λ b. b.publications.list) w.0
    ∙ (ap (λ k. k.list) (c.in_ok-first.ensures.publications ∙ c.again.ensures) ∙ c.requires.none) in
    stays _ _ x next (blank_right x c.args.objects row none) (is ∙ ap (fold shown_after (shown x)) w.1)
