use Rattle.std.proofs.Common.{◌∙◌, subst}
use Rattle.memchr.specs.Find.{IsFirstByte}
use Rattle.action_script.specs.Words.CutLines.{is_blank}
use Rattle.action_script.proofs.OnWords.Pieces.{end_found}
use Rattle.action_script.proofs.OnWords.WordCuts.{three_blanks}
use Rattle.action_script.proofs.words.cuts.end_of_piece.Goals as goal

pub returns-clause-end : goal.returns-clause-end
returns-clause-end c =
    c.unwrap_or.ensures ∙ end_found is_blank c.args.text.now c.memchr3.result
    (subst (λ p. IsFirstByte p c.args.text.now c.memchr3.result) three_blanks c.memchr3.ensures)
