use Rattle.shared_views.specs.declared.board.Board.{Board}
use Rattle.shared_views.proofs.BoardSteps.{goes_on, shows_next, ok_part}
use Rattle.shared_views.proofs.committed_writer.show.Goals as goal

pub publish_as-writer-requires : goal.publish_as-writer-requires
publish_as-writer-requires g c next is =
    let x : Board = c.args.writer.desk.shown.value in let w = c.requires.waits in
    goes_on _ _ x next w.0 w.2 (shows_next x next w.0 _ c.requires.right w.1 w.2 is)

pub returns-clause-wide : goal.returns-clause-wide
returns-clause-wide g c =
    let w = c.requires.waits in
    let values =
    ok_part c.publish_as-writer.result.1 _ _
    (c.publish_as-writer.ensures.succeeds tt) c.publish_as-writer.ensures.values in
    (shows_next c.args.writer.desk.shown.value c.publish_as-writer.result.0.desk.shown.value w.0 _ c.requires.right w.1 w.2 values.1.0).wide
