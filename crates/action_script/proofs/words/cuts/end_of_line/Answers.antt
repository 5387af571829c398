use Rattle.std.proofs.Common.{◌==◌, ◌∙◌}
use Rattle.action_script.proofs.OnWords.Pieces.{end_found}
use Rattle.action_script.proofs.words.cuts.end_of_line.Goals as goal

pub returns-clause-end : goal.returns-clause-end
returns-clause-end c = c.unwrap_or.ensures ∙ end_found (λ b. b == 10) c.args.text.now c.memchr.result c.memchr.ensures
