use Rattle.std.proofs.Common.{◌+◌, arith}
use Rattle.std.proofs.lemmas.List.{take_rest}
use Rattle.action_script.proofs.OnWords.LineCuts.{end_of, lines_of-cut, lines_of-whole}
use Rattle.action_script.proofs.words.cuts.cut_line.Goals as goal

pub returns-then-end-text-clause-cut : goal.returns-then-end-text-clause-cut
returns-then-end-text-clause-cut c =
    let text = c.args.text.now in
    rw (c.end_of_line-end.ensures.end, take_rest text (end_of text + 1))
    (lines_of-cut text (omega (arith, c.end_of_line-end.ensures.end, c.if-end-text.true)))

pub returns-else-end-text-clause-cut : goal.returns-else-end-text-clause-cut
returns-else-end-text-clause-cut c =
    lines_of-whole c.args.text.now c.requires (omega (arith, c.end_of_line-end.ensures.end, c.if-end-text.false))
