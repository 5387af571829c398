use Rattle.std.proofs.Common.{◌+◌, arith}
use Rattle.std.proofs.lemmas.List.{take_rest}
use Rattle.action_script.proofs.OnWords.WordCuts.{end_of, first_piece, only_piece}
use Rattle.action_script.proofs.words.cuts.cut_piece.Goals as goal

pub returns-then-end-text-clause-cut : goal.returns-then-end-text-clause-cut
returns-then-end-text-clause-cut c =
    let text = c.args.text.now in
    rw (c.end_of_piece-end.ensures.end, take_rest text (end_of text + 1))
    (first_piece text (omega (arith, c.end_of_piece-end.ensures.end, c.if-end-text.true)))

pub returns-else-end-text-clause-cut : goal.returns-else-end-text-clause-cut
returns-else-end-text-clause-cut c = only_piece c.args.text.now (omega (arith, c.end_of_piece-end.ensures.end, c.if-end-text.false))
