use Rattle.std.proofs.Common.{[], take, ap, ◌∙◌, arith}
use Rattle.action_script.specs.Words.NumberedNames.{with_name, with_names}
use Rattle.graph_maker.proofs.Distinct.{few_more, names_more}
use Rattle.graph_maker.proofs.forms.distinct.Goals as goal

pub loop-word-preserved : goal.loop-word-preserved
loop-word-preserved c =
    let words = c.args.words.now in
    let i = c.loop-word.word-index in
    let word = c.bytes.result.now in
    let added = c.in_ok-push_new.ensures in (
      few_more c.loop-word.names.items _ word i added c.loop-word.invariant.0,
      added
          ∙ ap (λ l. with_name l word) c.loop-word.invariant.1
          ∙ ap (λ w. with_name (with_names [] (take i words)) w) c.bytes.ensures
          ∙ names_more words i c.word-item.result (omega (arith, c.loop-word-test.true)) c.word-item.is,
    )
