use Rattle.std.proofs.Common.{◌≡◌, ◌+◌, suc, false, cond, sym, ap, ◌∙◌, arith}
use Rattle.action_script.specs.Words.CutLines.{lines_of}
use Rattle.action_script.specs.Words.JournalStarts.{lines_before, after_lines, is_journal_line, begins_journal}
use Rattle.action_script.proofs.OnWords.LineStarts.{after_feed}
use Rattle.action_script.proofs.words.journal_start.skip_script.Goals as goal

pub loop-line-preserved : goal.loop-line-preserved
loop-line-preserved c =
    let kept = c.loop-line.invariant in
    let line = c.cut_line.result.0.now in
    let more = c.cut_line.result.1.now in
    let test : is_journal_line line ≡ false = ap begins_journal (sym c.without_blanks.ensures) ∙ sym c.begins_journal.ensures
    ∙ c.if-begins_journal.false in
    let step : lines_before (lines_of c.loop-line.rest.now) ≡ suc (lines_before (lines_of more)) =
    ap lines_before c.cut_line.ensures.cut ∙ ap (λ b. cond b 0 (suc (lines_before (lines_of more)))) test in
    record {
      counted = omega (arith, kept.counted, step);
      few = omega (arith, kept.few, c.cut_line.ensures.shorter);
      after = λ n.
          let next : c.loop-line.lines + 1 + n ≡ c.loop-line.lines + suc n = omega arith in
          ap (λ k. after_lines k c.args.bytes.now) next ∙ kept.after (suc n) ∙ after_feed c.loop-line.rest.now n
          ∙ ap (after_lines n) (sym c.cut_line.ensures.after);
    }
